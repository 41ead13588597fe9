-- A read takes the first of the records that a reader has left.
use Rattle.std.proofs.Common.{◌≡◌, ◌≤◌, ◌+◌, ℕ, zero, suc, List, [], ◌∷◌, ◌++◌, Bor, Bool, true, false, length, Option, Some, None, arith, refl, sym, ap, ◌∙◌, inl, add-one}
use Rattle.std.specs.Prelude.{if◌then◌else◌, not, ◌&&◌, ◌==◌, option_map}
use Rattle.csv.specs.Machine.{Read, next_record, step, is_end, fields_after, field_after, ends_at_end}
use Rattle.csv.specs.Reading.{records_from, records_next, ReadRecord, ReadsNext, NextIs, Ready, buffered_of, has_failed, pending_of, reader_trim, strip_bom, took_first}
use Rattle.csv.specs.declared.parser.Config.{Config}
use Rattle.csv.specs.declared.parser.State.{State}
use Rattle.csv.specs.declared.parser.State.TheVariants as st
use Rattle.csv.specs.declared.reader.Reader.{Reader}
use Rattle.csv.specs.declared.reader.Trim.TheVariants as trim
use Rattle.arrival_text.specs.CsvItems.{Fields}
use Rattle.arrival_text.specs.CsvReading.{records_in, records_left, bytes_left, IsReading, found_before}

-- a record at the end of a text leaves nothing
at_end : (cfg : Config) (s : State) (f : Fields) (p : List ℕ) (r : Read) → next_record cfg s f p [] ≡ Some r → (r.1 ≡ st.StartRecord) × (r.2 ≡ [])
unfolding next_record
at_end cfg s f p r e = elim (ends_at_end s) as (λ b. (if b then Some (f ++ (p ∷ []), st.StartRecord, []) else None) ≡ Some r → (r.1 ≡ st.StartRecord) × (r.2 ≡ [])) [
  | true ↦ λ h. (grind arith, grind arith)
  | false ↦ λ h. cc
] e

-- any other record takes a byte
taken : (cfg : Config) (s : State) (f : Fields) (p : List ℕ) (c : ℕ) (rest : List ℕ) (r : Read) → next_record cfg s f p (c ∷ rest) ≡ Some r → length r.2 ≤ length rest
unfolding next_record
taken cfg s f p c [] r e = elim (is_end (step cfg s c).1) as (λ b. (if b then Some (fields_after (step cfg s c).1 f p, (step cfg s c).0, []) else next_record cfg (step cfg s c).0 (fields_after (step cfg s c).1 f p) (field_after (step cfg s c).1 c p) []) ≡ Some r → length r.2 ≤ 0) [
  | true ↦ λ h. grind arith
  | false ↦ λ h. let g = at_end cfg (step cfg s c).0 (fields_after (step cfg s c).1 f p) (field_after (step cfg s c).1 c p) r h in grind (arith, g.1)
] e
taken cfg s f p c (d ∷ rest) r e = elim (is_end (step cfg s c).1) as (λ b. (if b then Some (fields_after (step cfg s c).1 f p, (step cfg s c).0, d ∷ rest) else next_record cfg (step cfg s c).0 (fields_after (step cfg s c).1 f p) (field_after (step cfg s c).1 c p) (d ∷ rest)) ≡ Some r → length r.2 ≤ length (d ∷ rest)) [
  | true ↦ λ h. grind arith
  | false ↦ λ h. let g = taken cfg (step cfg s c).0 (fields_after (step cfg s c).1 f p) (field_after (step cfg s c).1 c p) d rest r h in omega arith
] e

-- nothing is left behind the end of a text
none_left : (cfg : Config) (n : ℕ) → records_from cfg n st.StartRecord [] ≡ []
unfolding records_from next_record
none_left cfg zero = refl
none_left cfg (suc n) = refl

-- more turns than bytes give no more records
enough : (cfg : Config) (n m : ℕ) (s : State) (xs : List ℕ) → length xs + 1 ≤ n → length xs + 1 ≤ m → records_from cfg n s xs ≡ records_from cfg m s xs
unfolding records_from
enough cfg zero m s xs h k = absurd (omega arith)
enough cfg (suc n) zero s xs h k = absurd (omega arith)
enough cfg (suc n) (suc m) s [] h k =
    elim (next_record cfg s [] [] []) as (λ o. next_record cfg s [] [] [] ≡ o → records_next (records_from cfg n) o ≡ records_next (records_from cfg m) o) [
      | None ↦ λ e. refl
      | Some p ↦ λ e. let end = at_end cfg s [] [] p e in
          let first : records_from cfg n p.1 p.2 ≡ [] = rw (end.0, end.1) (none_left cfg n) in
          let second : records_from cfg m p.1 p.2 ≡ [] = rw (end.0, end.1) (none_left cfg m) in
          ap (λ rows. p.0 ∷ rows) (first ∙ sym second)
    ] refl
enough cfg (suc n) (suc m) s (x ∷ xs) h k =
    elim (next_record cfg s [] [] (x ∷ xs)) as (λ o. next_record cfg s [] [] (x ∷ xs) ≡ o → records_next (records_from cfg n) o ≡ records_next (records_from cfg m) o) [
      | None ↦ λ e. refl
      | Some p ↦ λ e. let less = taken cfg s [] [] x xs p e in
          ap (λ rows. p.0 ∷ rows) (enough cfg n m p.1 p.2 (omega arith) (omega arith))
    ] refl

-- what is left behind a record
left_behind : (cfg : Config) (s : State) (xs : List ℕ) (p : Read) → next_record cfg s [] [] xs ≡ Some p
    → records_from cfg (length xs) p.1 p.2 ≡ records_from cfg (length p.2 + 1) p.1 p.2
left_behind cfg s [] p e =
    let end = at_end cfg s [] [] p e in
    rw (end.0, end.1) (none_left cfg 0 ∙ sym (none_left cfg 1))
left_behind cfg s (x ∷ xs) p e =
    let less = taken cfg s [] [] x xs p e in
    enough cfg (length (x ∷ xs)) (length p.2 + 1) p.1 p.2 (omega arith) (omega arith)

first_left : (cfg : Config) (s : State) (xs ys : List ℕ) (found : Bool) (fields : Fields) (s2 : State) (o : Option Read)
    → next_record cfg s [] [] xs ≡ o → NextIs o found fields s2 ys
    → records_from cfg (length xs + 1) s xs ≡ found_before found fields (records_from cfg (length ys + 1) s2 ys)
unfolding records_from
first_left cfg s xs ys found fields s2 None e h =
    rw (add-one (length xs), h, e) refl
first_left cfg s xs ys found fields s2 (Some p) e h =
    rw (add-one (length xs), h.0, h.1, h.2, h.3, e) (ap (λ rows. p.0 ∷ rows) (left_behind cfg s xs p e))

-- a read from known bytes leaves known bytes, and gives the first of the records
after_read : (cfg : Config) (s : State) (xs : List ℕ) (after : Option (List ℕ)) (found : Bool) (fields : Fields) (s2 : State)
    → ReadsNext cfg s (Some xs) after found fields s2
    → ((ys : List ℕ) × (after ≡ Some ys)) × (records_in cfg s (Some xs) ≡ found_before found fields (records_in cfg s2 after))
after_read cfg s xs None found fields s2 h = absurd h
after_read cfg s xs (Some ys) found fields s2 h = ((ys, refl), first_left cfg s xs ys found fields s2 (next_record cfg s [] [] xs) refl h)

abbrev known : Bor (List ℕ) → Option (List ℕ)
known s = Some s.now

-- behind the start of a text, what a reader has left is what it has buffered
left_is_pending : (reader : Reader (Bor (List ℕ))) → reader.bom_checked ≡ true → bytes_left reader ≡ pending_of (known reader.rdr) reader
left_is_pending reader e =
    ap (λ b. if has_failed reader then None else (if not b && (reader.at == 0) && (reader.filled == 0) then option_map strip_bom (known reader.rdr) else buffered_of (known reader.rdr) reader)) e

pub read_takes_first : (old new : Reader (Bor (List ℕ))) (found : Bool) (fields : Fields) → IsReading old
    → (reader_trim old ≡ trim.None → took_first new ≡ true)
    → (reader_trim old ≡ trim.None → Ready old → ReadRecord known old new found fields)
    → IsReading new × (records_left old ≡ found_before found fields (records_left new))
unfolding IsReading records_left
read_takes_first old new found fields h first read =
    let r = read h.0 h.1 in
    let before : bytes_left old ≡ Some h.2 = h.3 in
    let reads = rw before at r.0 in
    let step = after_read old.config old.state h.2 (pending_of (known new.rdr) new) found fields new.state reads in
    let left = left_is_pending new r.1 in
    ((r.3 ∙ h.0, inl (first h.0), step.0.0, left ∙ step.0.1), rw (before, left, r.2) step.1)
