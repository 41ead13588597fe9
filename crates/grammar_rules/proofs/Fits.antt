-- Each way to join grammars and their readers keeps what is known of them: a line of a grammar is one term of these.
use Rattle.std.proofs.Common.{◌≡◌, ◌⊎◌, ◌<◌, ◌≤◌, ℕ, zero, suc, List, [], ◌++◌, drop, Bool, true, false, refl, sym, ◌∙◌, arith, Option}
use Rattle.std.specs.Prelude.{◌&&◌, if◌then◌else◌, is_some, None, Ok, Err}
use Rattle.grammar_rules.specs.declared.stop.Stop.TheVariants.{Expected}
use Rattle.grammar_rules.specs.Lexemes.{Lexeme, among, disjoint, no_symbol, end_symbol, begins_with, first_of}
use Rattle.grammar_rules.specs.Rules.{Grammar, token, nothing, both, tree, choice, perhaps, option_of, flag, either_of, or_else, repeated, opened, within}
use Rattle.grammar_rules.specs.Readers.{Reading, Reader, mapped, to_left, to_right, to_some, read_token, read_nothing, read_both, read_tree, read_choice, read_or_else, read_perhaps, read_flag, read_repeated, read_opened, read_within}
use Rattle.grammar_rules.specs.Laws.{Lawful, Fits}
use Rattle.grammar_rules.proofs.Cuts.{apart_by}
use Rattle.grammar_rules.proofs.RuleLaws.{Lawful-token, Lawful-nothing, Lawful-never, Lawful-both, Lawful-tree, Lawful-choice, Lawful-repeated, Lawful-within}
use Rattle.grammar_rules.proofs.UnderLaws.{Under-same, Under-both, Under-tree, Under-choice, Under-repeated, Under-within}
use Rattle.grammar_rules.proofs.ReaderLaws.{Reads-both, Keeps-both, Reads-tree, Keeps-tree}
use Rattle.grammar_rules.proofs.TokenLaws.{Reads-token, Keeps-token, Reads-nothing, Keeps-nothing, Reads-deep, Keeps-deep, Under-deep}
use Rattle.grammar_rules.proofs.ChoiceReaders.{Reads-choice, Keeps-choice}
use Rattle.grammar_rules.proofs.RepeatedReaders.{Reads-repeated, Keeps-repeated}
use Rattle.grammar_rules.proofs.WithinReaders.{Reads-within, Keeps-within}

-- limits that differ in more cases
pub fits_when : {A P Q : Type 0} {R U : Grammar A} {b c : List ℕ} {n : Bool} {read : Reader A} → (Q → P) → Fits A P R U b c n read → Fits A Q R U b c n read
fits_when f fits = record { laws = fits.laws; wider_laws = fits.wider_laws; under = fits.under; reads = λ q. fits.reads (f q); keeps = fits.keeps }

pub fits_token : {P : Type 0} (set : List ℕ) → among set end_symbol ≡ false → among set no_symbol ≡ false → Fits Lexeme P (token set) (token set) set [] false (read_token set)
fits_token set no_end absent = record {
  laws = Lawful-token set;
  wider_laws = Lawful-token set;
  under = Under-same Lexeme (token set);
  reads = λ p. Reads-token set absent;
  keeps = Keeps-token set no_end absent;
}

pub fits_nothing : {P : Type 0} → Fits (Unit {0}) P nothing nothing [] [] true read_nothing
fits_nothing = record {
  laws = Lawful-nothing;
  wider_laws = Lawful-nothing;
  under = Under-same (Unit {0}) nothing;
  reads = λ p. Reads-nothing;
  keeps = Keeps-nothing;
}

pub fits_both : {A B P : Type 0} {R U : Grammar A} {S V : Grammar B} {b₁ c₁ b₂ c₂ : List ℕ} {n₁ n₂ : Bool} {first : Reader A} {second : Reader B}
    → Fits A P R U b₁ c₁ n₁ first → Fits B P S V b₂ c₂ n₂ second → disjoint c₁ b₂ ≡ true
    → Fits (A × B) P (both R S) (both U V) (b₁ ++ (if n₁ then b₂ else [])) (c₂ ++ (if n₂ then c₁ else [])) (n₁ && n₂) (read_both first second)
fits_both {A} {B} {P} {R} {U} {S} {V} {b₁} {c₁} {b₂} {c₂} {n₁} {n₂} {first} {second} one two apart = record {
  laws = Lawful-both A B R S b₁ c₁ b₂ c₂ n₁ n₂ one.laws two.laws (apart_by c₁ b₂ apart);
  wider_laws = Lawful-both A B U V b₁ c₁ b₂ c₂ n₁ n₂ one.wider_laws two.wider_laws (apart_by c₁ b₂ apart);
  under = Under-both A B R U S V b₁ c₁ b₂ c₂ n₁ n₂ one.laws one.wider_laws two.laws two.wider_laws (apart_by c₁ b₂ apart) one.under two.under;
  reads = λ p. Reads-both A B R U S V b₁ c₁ b₂ c₂ n₁ n₂ one.laws one.wider_laws two.laws two.wider_laws (apart_by c₁ b₂ apart) one.under two.under first second (one.reads p) (two.reads p) one.keeps;
  keeps = Keeps-both A B first second one.keeps two.keeps;
}

pub fits_tree : {A B P : Type 0} {R U : Grammar A} {b c : List ℕ} {n : Bool} {read : Reader A} (f : A → B) → Fits A P R U b c n read → Fits B P (tree f R) (tree f U) b c n (read_tree f read)
fits_tree {A} {B} {P} {R} {U} {b} {c} {n} {read} f one = record {
  laws = Lawful-tree A B f R b c n one.laws;
  wider_laws = Lawful-tree A B f U b c n one.wider_laws;
  under = Under-tree A B f R U one.under;
  reads = λ p. Reads-tree A B f R U c read (one.reads p);
  keeps = Keeps-tree A B f read one.keeps;
}

pub fits_choice : {A B P : Type 0} {R U : Grammar A} {S V : Grammar B} {b₁ c₁ b₂ c₂ : List ℕ} {n₂ : Bool} {first : Reader A} {second : Reader B}
    → Fits A P R U b₁ c₁ false first → Fits B P S V b₂ c₂ n₂ second → disjoint b₁ b₂ ≡ true → among b₁ no_symbol ≡ false
    → Fits (A ⊎ B) P (choice R S) (choice U V) (b₁ ++ b₂) ((c₁ ++ c₂) ++ (if n₂ then b₁ else [])) n₂ (read_choice b₁ first second)
fits_choice {A} {B} {P} {R} {U} {S} {V} {b₁} {c₁} {b₂} {c₂} {n₂} {first} {second} one two apart absent = record {
  laws = Lawful-choice A B R S b₁ c₁ b₂ c₂ n₂ one.laws two.laws (apart_by b₁ b₂ apart);
  wider_laws = Lawful-choice A B U V b₁ c₁ b₂ c₂ n₂ one.wider_laws two.wider_laws (apart_by b₁ b₂ apart);
  under = Under-choice A B R U S V b₁ c₁ b₂ c₂ n₂ one.laws one.wider_laws two.laws two.wider_laws (apart_by b₁ b₂ apart) one.under two.under;
  reads = λ p. Reads-choice A B R U S V b₁ c₁ b₂ c₂ n₂ one.laws one.wider_laws two.laws two.wider_laws (apart_by b₁ b₂ apart) absent first second (one.reads p) (two.reads p);
  keeps = Keeps-choice A B b₁ first second one.keeps two.keeps;
}

-- a reader that always reads the same
pub fits_read : {A P : Type 0} {R U : Grammar A} {b c : List ℕ} {n : Bool} {read other : Reader A} → ((ts : List Lexeme) → other ts ≡ read ts) → Fits A P R U b c n read
    → Fits A P R U b c n other
fits_read {A} {P} {R} {U} {b} {c} {n} {read} {other} same one = record {
  laws = one.laws;
  wider_laws = one.wider_laws;
  under = one.under;
  reads = λ p. let reads = one.reads p in record {
    got = λ ts rest a e. reads.got ts rest a (sym (same ts) ∙ e);
    stopped = λ ts rest stop ended e. reads.stopped ts rest stop ended (sym (same ts) ∙ e);
    complete = λ used rest a w free. same (used ++ rest) ∙ reads.complete used rest a w free;
  };
  keeps = record { ended = λ ts rest a ended e. one.keeps.ended ts rest a ended (sym (same ts) ∙ e) };
}

read_perhaps-choice : {A : Type 0} (here : Bool) (read : Reading A) (ts : List Lexeme) → (if here then mapped to_some read else Ok (None, ts)) ≡ mapped option_of (if here then mapped to_left read else mapped to_right (read_nothing ts))
read_perhaps-choice true (Ok read) ts = refl
read_perhaps-choice true (Err stop) ts = refl
read_perhaps-choice false read ts = refl

pub fits_perhaps : {A P : Type 0} {R U : Grammar A} {b c : List ℕ} {read : Reader A} → Fits A P R U b c false read → disjoint b [] ≡ true → among b no_symbol ≡ false
    → Fits (Option A) P (perhaps R) (perhaps U) (b ++ []) ((c ++ []) ++ b) true (read_perhaps b read)
fits_perhaps {A} {P} {R} {U} {b} {c} {read} one apart absent =
    fits_read (λ ts. read_perhaps-choice (begins_with b ts) (read ts) ts) (fits_tree option_of (fits_choice one fits_nothing apart absent))

read_flag-perhaps : (here : Bool) (ts : List Lexeme) → (if here then Ok (true, drop 1 ts) else Ok (false, ts))
    ≡ mapped is_some (if here then mapped to_some (if here then Ok (first_of ts, drop 1 ts) else Err (Expected, ts)) else Ok (None, ts))
read_flag-perhaps true ts = refl
read_flag-perhaps false ts = refl

pub fits_flag : {P : Type 0} (set : List ℕ) → among set end_symbol ≡ false → among set no_symbol ≡ false → disjoint set [] ≡ true
    → Fits Bool P (flag set) (flag set) (set ++ []) (([] ++ []) ++ set) true (read_flag set)
fits_flag set no_end absent apart =
    fits_read (λ ts. read_flag-perhaps (begins_with set ts) ts) (fits_tree is_some (fits_perhaps (fits_token set no_end absent) apart absent))

read_or_else-choice : {A : Type 0} (here : Bool) (first second : Reading A) → (if here then first else second) ≡ mapped either_of (if here then mapped to_left first else mapped to_right second)
read_or_else-choice true (Ok read) second = refl
read_or_else-choice true (Err stop) second = refl
read_or_else-choice false first (Ok read) = refl
read_or_else-choice false first (Err stop) = refl

pub fits_or_else : {A P : Type 0} {R U S V : Grammar A} {b₁ c₁ b₂ c₂ : List ℕ} {n₂ : Bool} {first second : Reader A}
    → Fits A P R U b₁ c₁ false first → Fits A P S V b₂ c₂ n₂ second → disjoint b₁ b₂ ≡ true → among b₁ no_symbol ≡ false
    → Fits A P (or_else R S) (or_else U V) (b₁ ++ b₂) ((c₁ ++ c₂) ++ (if n₂ then b₁ else [])) n₂ (read_or_else b₁ first second)
fits_or_else {A} {P} {R} {U} {S} {V} {b₁} {c₁} {b₂} {c₂} {n₂} {first} {second} one two apart absent =
    fits_read (λ ts. read_or_else-choice (begins_with b₁ ts) (first ts) (second ts)) (fits_tree either_of (fits_choice one two apart absent))

pub fits_repeated : {A P : Type 0} {R U : Grammar A} {b c : List ℕ} {read : Reader A} → Fits A P R U b c false read → disjoint c b ≡ true → among b no_symbol ≡ false
    → Fits (List A) P (repeated R) (repeated U) b (c ++ b) true (read_repeated b read)
fits_repeated {A} {P} {R} {U} {b} {c} {read} one apart absent = record {
  laws = Lawful-repeated A R b c one.laws (apart_by c b apart);
  wider_laws = Lawful-repeated A U b c one.wider_laws (apart_by c b apart);
  under = Under-repeated A R U b c one.laws one.wider_laws (apart_by c b apart) one.under;
  reads = λ p. Reads-repeated A R U b c one.laws one.wider_laws (apart_by c b apart) one.under absent read (one.reads p) one.keeps;
  keeps = Keeps-repeated A b read one.keeps;
}

pub fits_within : {A P : Type 0} {R U : Grammar A} {b c : List ℕ} {n : Bool} {read : Reader A} (most more : ℕ) → most ≤ more → (P → most < more) → Fits A P R U b c n read
    → Fits A P (within most R) (within more U) b c n (read_within most read)
fits_within {A} {P} {R} {U} {b} {c} {n} {read} most more le less one = record {
  laws = Lawful-within A R b c n most one.laws;
  wider_laws = Lawful-within A U b c n more one.wider_laws;
  under = Under-within A R U most more le one.under;
  reads = λ p. Reads-within A R U b c n one.laws one.under most more (less p) read (one.reads p);
  keeps = Keeps-within A most read one.keeps;
}

-- a token that opens what a grammar gives: what is known of the grammar where something may still be opened, and of the wider one
pub fits_opened : {A P : Type 0} {R U : Grammar A} {b c : List ℕ} {n : Bool} {read : Reader A} (left more : ℕ) (set : List ℕ) → left ≤ more → (P → left < more)
    → among set end_symbol ≡ false → among set no_symbol ≡ false → (0 < more → Lawful A U b c n) → (0 < left → Fits A P R U b c n read)
    → Fits (Lexeme × A) P (opened left set R) (opened more set U) (set ++ []) (c ++ (if n then [] else [])) false (read_opened left set read)
fits_opened {A} {P} {R} {U} {b} {c} {n} {read} zero zero set le less no_end absent wider inside = record {
  laws = Lawful-never (Lexeme × A) (set ++ []) (c ++ (if n then [] else []));
  wider_laws = Lawful-never (Lexeme × A) (set ++ []) (c ++ (if n then [] else []));
  under = Under-same (Lexeme × A) (opened zero set R);
  reads = λ p. absurd (let never = less p in omega arith);
  keeps = Keeps-deep A set read;
}
fits_opened {A} {P} {R} {U} {b} {c} {n} {read} zero (suc more) set le less no_end absent wider inside =
    let laws = wider (omega arith) in
    record {
      laws = Lawful-never (Lexeme × A) (set ++ []) (c ++ (if n then [] else []));
      wider_laws = Lawful-both Lexeme A (token set) U set [] b c false n (Lawful-token set) laws (apart_by [] b refl);
      under = Under-deep A set read U laws.empty;
      reads = λ p. Reads-deep A set read U laws.empty (c ++ (if n then [] else []));
      keeps = Keeps-deep A set read;
    }
fits_opened {A} {P} {R} {U} {b} {c} {n} {read} (suc left) zero set le less no_end absent wider inside = absurd (omega arith)
fits_opened {A} {P} {R} {U} {b} {c} {n} {read} (suc left) (suc more) set le less no_end absent wider inside =
    fits_both (fits_token set no_end absent) (inside (omega arith)) refl
