-- Joined forms are forms.
use Rattle.std.specs.Prelude.{◌≡◌, ℕ, Bool, true, false, cond, ◌&&◌, ◌==◌, List, [], ◌∷◌, ◌++◌, Option, Some, None, refl}
use Rattle.std.proofs.Common.{sym, ap, ◌∙◌, arith}
use Rattle.std.proofs.lemmas.Bool.Decides.{nat_tests}
use Rattle.std.proofs.lemmas.List.{append_assoc}
use Rattle.field_forms.specs.Forms.{Form, IsForm, Reading, alternative, constant_form, image_form, image_reading, no_alternative, no_form, pair_form, pair_reading, record_form, some_fits, some_spelling, tagged_form, tagged_reading, tested_form, tested_reading, variant_form}

pub and-first : (a b : Bool) → (a && b) ≡ true → a ≡ true
and-first true b h = refl
and-first false b h = cc

pub and-second : (a b : Bool) → (a && b) ≡ true → b ≡ true
and-second true b h = h
and-second false b h = cc

pub and-both : (a b : Bool) → a ≡ true → b ≡ true → (a && b) ≡ true
and-both a b h k = ap (λ x. x && b) h ∙ k

-- the value of what was read, and another where nothing was
abbrev first_of_reading : {A : Type 0} → A → Reading A → A
first_of_reading a None = a
first_of_reading a (Some p) = p.0

-- the bytes behind what was read, and others where nothing was
abbrev rest_of_reading : {A : Type 0} → List ℕ → Reading A → List ℕ
rest_of_reading rest None = rest
rest_of_reading rest (Some p) = p.1

-- the parts of what is reading
pub same-value : {A : Type 0} (a b : A) (r s : List ℕ) → ◌≡◌ {A = Reading A} (Some (a, r)) (Some (b, s)) → a ≡ b
same-value a b r s e = ap (first_of_reading a) e

pub same-rest : {A : Type 0} (a b : A) (r s : List ℕ) → ◌≡◌ {A = Reading A} (Some (a, r)) (Some (b, s)) → r ≡ s
same-rest a b r s e = ap (rest_of_reading r) e

pub some-reading : {A : Type 0} (a b : A) (r s : List ℕ) → a ≡ b → r ≡ s → ◌≡◌ {A = Reading A} (Some (a, r)) (Some (b, s))
some-reading a b r s e f = λ i. Some (e i, f i)

pub image_reading-inv : {A B : Type 0} (to : A → B) (r : Reading A) (b : B) (rest : List ℕ) → image_reading to r ≡ Some (b, rest)
    → (a : A) × (r ≡ Some (a, rest)) × (to a ≡ b)
image_reading-inv to None b rest e = cc
image_reading-inv to (Some (a, mid)) b rest e = (a, some-reading a a mid rest refl (same-rest (to a) b mid rest e), same-value (to a) b mid rest e)

-- two values as a pair
abbrev pair_of : {A B : Type 0} → A → B → A × B
pair_of a b = (a, b)

pub pair_reading-inv : {A B : Type 0} (r : Reading A) (next : List ℕ → Reading B) (v : A × B) (rest : List ℕ) → pair_reading r next ≡ Some (v, rest)
    → (mid : List ℕ) × (r ≡ Some (v.0, mid)) × (next mid ≡ Some (v.1, rest))
pair_reading-inv None next v rest e = cc
pair_reading-inv {A = A} {B = B} (Some (a, mid)) next v rest e =
    let w = image_reading-inv (pair_of a) (next mid) v rest e in
    (mid, some-reading a v.0 mid mid (ap (λ (p : A × B). p.0) w.2) refl, w.1 ∙ some-reading w.0 v.1 rest rest (ap (λ (p : A × B). p.1) w.2) refl)

pub tested_reading-inv : {A : Type 0} (test : A → Bool) (r : Reading A) (a : A) (rest : List ℕ) → tested_reading test r ≡ Some (a, rest)
    → (test a ≡ true) × (r ≡ Some (a, rest))
tested_reading-inv test None a rest e = cc
tested_reading-inv {A = A} test (Some (b, mid)) a rest e =
    elim (test b) as (λ t. test b ≡ t → ◌≡◌ {A = Reading A} (cond t (Some (b, mid)) None) (Some (a, rest)) → (test a ≡ true) × (◌≡◌ {A = Reading A} (Some (b, mid)) (Some (a, rest)))) [
      | true ↦ λ h k. (ap test (sym (same-value b a mid rest k)) ∙ h, k)
      | false ↦ λ h k. cc
    ] refl e

pub IsForm-pair_form : {A B : Type 0} {f : Form A} {g : Form B} → IsForm f → IsForm g → IsForm (pair_form f g)
IsForm-pair_form {f = f} {g = g} F G = record {
  read_back = λ v rest h.
      ap (λ bytes. pair_reading (f.reading bytes) g.reading) (append_assoc (f.spelling v.0) (g.spelling v.1) rest)
      ∙ ap (λ r. pair_reading r g.reading) (F.read_back v.0 (g.spelling v.1 ++ rest) (and-first (f.fits v.0) (g.fits v.1) h))
      ∙ ap (image_reading (pair_of v.0)) (G.read_back v.1 rest (and-second (f.fits v.0) (g.fits v.1) h));
  only = λ bytes v rest e.
      let w = pair_reading-inv (f.reading bytes) g.reading v rest e in
      let a = F.only bytes v.0 w.0 w.1 in
      let b = G.only w.0 v.1 rest w.2 in
      (and-both (f.fits v.0) (g.fits v.1) a.0 b.0, a.1 ∙ ap (λ l. f.spelling v.0 ++ l) b.1 ∙ sym (append_assoc (f.spelling v.0) (g.spelling v.1) rest));
}

-- the values of one type for those of another, each for one
pub record AreTheSame {A B : Type 0} (fits_a : A → Bool) (fits_b : B → Bool) (to : A → B) (from : B → A) : Type 0 where
  pub back : (b : B) → fits_b b ≡ true → to (from b) ≡ b
  pub back_fits : (b : B) → fits_b b ≡ true → fits_a (from b) ≡ true
  pub forth : (a : A) → fits_a a ≡ true → from (to a) ≡ a
  pub forth_fits : (a : A) → fits_a a ≡ true → fits_b (to a) ≡ true

pub IsForm-image_form : {A B : Type 0} {f : Form A} (fits : B → Bool) (to : A → B) (from : B → A) → AreTheSame f.fits fits to from → IsForm f → IsForm (image_form fits to from f)
IsForm-image_form {f = f} fits to from S F = record {
  read_back = λ b rest h.
      ap (image_reading to) (F.read_back (from b) rest (S.back_fits b h))
      ∙ some-reading (to (from b)) b rest rest (S.back b h) refl;
  only = λ bytes b rest e.
      let w = image_reading-inv to (f.reading bytes) b rest e in
      let a = F.only bytes w.0 rest w.1 in (
        ap fits (sym w.2) ∙ S.forth_fits w.0 a.0,
        a.1 ∙ ap (λ x. f.spelling x ++ rest) (sym (ap from (sym w.2) ∙ S.forth w.0 a.0)),
      );
}

pub IsForm-record_form : {A B : Type 0} {f : Form A} (of : A → B) (parts : B → A) → ((b : B) → of (parts b) ≡ b) → ((a : A) → parts (of a) ≡ a) → IsForm f → IsForm (record_form of parts f)
IsForm-record_form {f = f} of parts back forth F = IsForm-image_form _ of parts (record {
  back = λ b h. back b;
  back_fits = λ b h. h;
  forth = λ a h. forth a;
  forth_fits = λ a h. ap f.fits (forth a) ∙ h;
}) F

pub IsForm-variant_form : {A B : Type 0} {f : Form A} (of : A → B) (content : B → Option A) → ((b : B) (a : A) → content b ≡ Some a → of a ≡ b)
    → ((a : A) → content (of a) ≡ Some a) → IsForm f → IsForm (variant_form of content f)
IsForm-variant_form {A = A} {B = B} {f = f} of content back forth F = record {
  read_back = λ b rest h. by b rest (content b) refl h;
  only = λ bytes b rest e.
      let w = image_reading-inv of (f.reading bytes) b rest e in
      let o = F.only bytes w.0 rest w.1 in
      let same : content b ≡ Some w.0 = ap content (sym w.2) ∙ forth w.0 in
      (ap (some_fits f.fits) same ∙ o.0, o.1 ∙ ap (λ c. some_spelling f.spelling c ++ rest) (sym same));
}
  where
    by : (b : B) (rest : List ℕ) (c : Option A) → content b ≡ c → some_fits f.fits c ≡ true
        → image_reading of (f.reading (some_spelling f.spelling c ++ rest)) ≡ Some (b, rest)
    by b rest None e h = cc
    by b rest (Some a) e h = ap (image_reading of) (F.read_back a rest h) ∙ some-reading (of a) b rest rest (back b a e) refl

-- values of a variant have its tag
pub variant-tag : {A B : Type 0} (fits : A → Bool) (tag_of : B → ℕ) (n : ℕ) (of : A → B) (content : B → Option A) → ((b : B) (a : A) → content b ≡ Some a → of a ≡ b)
    → ((a : A) → tag_of (of a) ≡ n) → (b : B) → some_fits fits (content b) ≡ true → tag_of b ≡ n
variant-tag {A = A} fits tag_of n of content back tag b h = by (content b) refl h
  where
    by : (c : Option A) → content b ≡ c → some_fits fits c ≡ true → tag_of b ≡ n
    by None e k = cc
    by (Some a) e k = ap tag_of (sym (back b a e)) ∙ tag a

pub IsForm-tested_form : {A : Type 0} {f : Form A} (test : A → Bool) → IsForm f → IsForm (tested_form test f)
IsForm-tested_form {A = A} {f = f} test F = record {
  read_back = λ a rest h.
      ap (tested_reading test) (F.read_back a rest (and-second (test a) (f.fits a) h))
      ∙ ap (λ b. cond {A = Reading A} b (Some (a, rest)) None) (and-first (test a) (f.fits a) h);
  only = λ bytes a rest e.
      let w = tested_reading-inv test (f.reading bytes) a rest e in
      let o = F.only bytes a rest w.1 in
      (and-both (test a) (f.fits a) w.0 o.0, o.1);
}

pub IsForm-constant_form : {V : Type 0} (v : V) (is_it : V → Bool) → is_it v ≡ true → ((w : V) → is_it w ≡ true → v ≡ w) → IsForm (constant_form v is_it)
IsForm-constant_form v is_it t u = record {
  read_back = λ w rest h. some-reading v w rest rest (u w h) refl;
  only = λ bytes w rest e. (ap is_it (sym (same-value v w bytes rest e)) ∙ t, same-rest v w bytes rest e);
}

pub IsForm-no_form : {V : Type 0} → IsForm (no_form {V = V})
IsForm-no_form = record {
  read_back = λ v rest h. cc;
  only = λ bytes v rest e. cc;
}

-- forms for tags, each of the values with this tag
pub record AreBodies {V : Type 0} (tag_of : V → ℕ) (body : ℕ → Form V) : Type 0 where
  pub forms : (tag : ℕ) → IsForm (body tag)
  pub tags : (tag : ℕ) (v : V) → (body tag).fits v ≡ true → tag_of v ≡ tag

eq-true : (m n : ℕ) → (m == n) ≡ true → m ≡ n
eq-true m n h = grind (arith, nat_tests)

pub AreBodies-alternative : {V : Type 0} (tag_of : V → ℕ) (n : ℕ) {f : Form V} {others : ℕ → Form V} → IsForm f
    → ((v : V) → f.fits v ≡ true → tag_of v ≡ n) → AreBodies tag_of others → AreBodies tag_of (alternative n f others)
AreBodies-alternative {V = V} tag_of n {f = f} {others = others} F T O = record {
  forms = λ tag. elim (tag == n) as (λ b. IsForm (cond b f (others tag))) [ true ↦ F | false ↦ O.forms tag ];
  tags = λ tag v. elim (tag == n) as (λ b. (tag == n) ≡ b → (cond b f (others tag)).fits v ≡ true → tag_of v ≡ tag) [
    | true ↦ λ e h. T v h ∙ sym (eq-true tag n e)
    | false ↦ λ e h. O.tags tag v h
  ] refl;
}

pub AreBodies-no_alternative : {V : Type 0} (tag_of : V → ℕ) → AreBodies tag_of (no_alternative {V = V})
AreBodies-no_alternative tag_of = record { forms = λ tag. IsForm-no_form; tags = λ tag v h. cc }

pub IsForm-tagged_form : {V : Type 0} (tag_of : V → ℕ) (body : ℕ → Form V) → AreBodies tag_of body → IsForm (tagged_form tag_of body)
IsForm-tagged_form {V = V} tag_of body B = record {
  read_back = λ v rest h. (B.forms (tag_of v)).read_back v rest h;
  only = λ bytes v rest e. read-inv bytes v rest e;
}
  where
    read-inv : (bytes : List ℕ) (v : V) (rest : List ℕ) → tagged_reading body bytes ≡ Some (v, rest)
        → ((body (tag_of v)).fits v ≡ true) × (bytes ≡ (tag_of v ∷ (body (tag_of v)).spelling v) ++ rest)
    read-inv [] v rest e = cc
    read-inv (tag ∷ bytes) v rest e =
        let o = (B.forms tag).only bytes v rest e in
        let t = B.tags tag v o.0 in
        (ap (λ x. (body x).fits v) t ∙ o.0, (λ i. tag ∷ o.1 i) ∙ ap (λ x. x ∷ ((body x).spelling v ++ rest)) (sym t))
