-- What the form of a stored type is, and how forms are joined (docs/FORMATS).
use Rattle.std.specs.Prelude.{◌≡◌, ℕ, zero, suc, Bool, true, false, ◌&&◌, ◌==◌, if◌then◌else◌, List, [], ◌∷◌, ◌++◌, length, Option, Some, None}
use Rattle.std.specs.List.{flat_map, list_all}

-- a value at the front of bytes and the bytes behind it, or that none stands there
abbrev pub Reading : Type 0 → Type 0
Reading V = Option (V × List ℕ)

-- a form: which values have bytes, which bytes those are, and the value at the front of bytes
pub record Form (V : Type 0) : Type 0 where
  pub fits : V → Bool
  pub spelling : V → List ℕ
  pub reading : List ℕ → Reading V

-- a value is read from its bytes, whatever follows them, and nothing is read from others
pub record IsForm {V : Type 0} (f : Form V) : Type 0 where
  pub read_back : (v : V) (rest : List ℕ) → f.fits v ≡ true
      → f.reading (f.spelling v ++ rest) ≡ Some (v, rest)
  pub only : (bytes : List ℕ) (v : V) (rest : List ℕ) → f.reading bytes ≡ Some (v, rest)
      → (f.fits v ≡ true) × (bytes ≡ f.spelling v ++ rest)

-- no value is spelled by no bytes
abbrev pub NeedsBytes : {V : Type 0} → Form V → Type 0
NeedsBytes f = f.reading [] ≡ None

-- what was read, as a value of another type
abbrev pub image_reading : {A B : Type 0} → (A → B) → Reading A → Reading B
image_reading to None = None
image_reading to (Some (a, rest)) = Some (to a, rest)

-- what was read, with what is read behind it
abbrev pub pair_reading : {A B : Type 0} → Reading A → (List ℕ → Reading B) → Reading (A × B)
pair_reading None next = None
pair_reading (Some (a, rest)) next = image_reading (λ b. (a, b)) (next rest)

-- what was read, where it passes a test
abbrev pub tested_reading : {A : Type 0} → (A → Bool) → Reading A → Reading A
tested_reading test None = None
tested_reading test (Some (a, rest)) = if test a then Some (a, rest) else None

-- a value, and behind it one of another form
abbrev pub pair_form : {A B : Type 0} → Form A → Form B → Form (A × B)
pair_form f g = record {
  fits = λ v. f.fits v.0 && g.fits v.1;
  spelling = λ v. f.spelling v.0 ++ g.spelling v.1;
  reading = λ bytes. pair_reading (f.reading bytes) g.reading;
}

-- the values of another type in place of those of a form
abbrev pub image_form : {A B : Type 0} → (B → Bool) → (A → B) → (B → A) → Form A → Form B
image_form fits to from f = record {
  fits = fits;
  spelling = λ b. f.spelling (from b);
  reading = λ bytes. image_reading to (f.reading bytes);
}

-- the records of another type in place of their parts, which have a form
abbrev pub record_form : {A B : Type 0} → (A → B) → (B → A) → Form A → Form B
record_form of parts f = image_form (λ b. f.fits (parts b)) of parts f

-- whether there is a value and it passes a test
abbrev pub some_fits : {A : Type 0} → (A → Bool) → Option A → Bool
some_fits fits None = false
some_fits fits (Some a) = fits a

-- the bytes of a value, where there is one
abbrev pub some_spelling : {A : Type 0} → (A → List ℕ) → Option A → List ℕ
some_spelling spelling None = []
some_spelling spelling (Some a) = spelling a

-- the values of one variant of a type, of which the content has a form
abbrev pub variant_form : {A B : Type 0} → (A → B) → (B → Option A) → Form A → Form B
variant_form of content f = record {
  fits = λ b. some_fits f.fits (content b);
  spelling = λ b. some_spelling f.spelling (content b);
  reading = λ bytes. image_reading of (f.reading bytes);
}

-- the values of a form that pass a test
abbrev pub tested_form : {A : Type 0} → (A → Bool) → Form A → Form A
tested_form test f = record {
  fits = λ a. test a && f.fits a;
  spelling = f.spelling;
  reading = λ bytes. tested_reading test (f.reading bytes);
}

-- one value, which has no bytes
abbrev pub constant_form : {V : Type 0} → V → (V → Bool) → Form V
constant_form v is_it = record {
  fits = is_it;
  spelling = λ _. [];
  reading = λ bytes. Some (v, bytes);
}

-- no value at all
abbrev pub no_form : {V : Type 0} → Form V
no_form = record { fits = λ _. false; spelling = λ _. []; reading = λ _. None }

-- what is read behind a first byte by the form that the byte tells
abbrev pub tagged_reading : {V : Type 0} → (ℕ → Form V) → List ℕ → Reading V
tagged_reading body [] = None
tagged_reading body (tag ∷ bytes) = (body tag).reading bytes

-- a first byte, and behind it the form that it tells
abbrev pub tagged_form : {V : Type 0} → (V → ℕ) → (ℕ → Form V) → Form V
tagged_form tag_of body = record {
  fits = λ v. (body (tag_of v)).fits v;
  spelling = λ v. tag_of v ∷ (body (tag_of v)).spelling v;
  reading = tagged_reading body;
}

-- a form for one tag, and others for the other tags
abbrev pub alternative : {V : Type 0} → ℕ → Form V → (ℕ → Form V) → ℕ → Form V
alternative n f others tag = if tag == n then f else others tag

-- no form for any tag
abbrev pub no_alternative : {V : Type 0} → ℕ → Form V
no_alternative tag = no_form

-- an item, and behind it others
abbrev pub item_reading : {V : Type 0} → Reading V → (List ℕ → Reading (List V)) → Reading (List V)
item_reading None next = None
item_reading (Some (v, rest)) next = image_reading (λ vs. v ∷ vs) (next rest)

-- so many items
abbrev pub items_reading : {V : Type 0} → (List ℕ → Reading V) → ℕ → List ℕ → Reading (List V)
items_reading read zero bytes = Some ([], bytes)
items_reading read (suc n) bytes = item_reading (read bytes) (items_reading read n)

-- as many items as a number says
abbrev pub counted_reading : {V : Type 0} → (List ℕ → Reading V) → Reading ℕ → Reading (List V)
counted_reading read None = None
counted_reading read (Some (n, rest)) = items_reading read n rest

-- a list: the number of its items, and the items
abbrev pub list_form : {V : Type 0} → Form ℕ → Form V → Form (List V)
list_form number f = record {
  fits = λ vs. number.fits (length vs) && list_all f.fits vs;
  spelling = λ vs. number.spelling (length vs) ++ flat_map f.spelling vs;
  reading = λ bytes. counted_reading f.reading (number.reading bytes);
}
