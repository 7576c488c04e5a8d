-- On which grounds a request is not refused.
use Rattle.keyed.proofs.Words.{Bool, false, true, cond, List, [], ◌∷◌, ap, refl, sym, ◌≡◌, ◌∙◌, ℕ, ◌+◌, arith, eqb, both_ways, eq-eqb, Option, None, Some}
use Rattle.law.proofs.Subject.{number_of, Refusal, Entry, Intermediation, Kind, Pair, Side, Buyer, Seller, Terms, Table, Listed, Closing, Request, held, other, has_leg, allocation, AllocationState, KeptEntry, Trade, shown, fields_verdict, completed, State, in_turn, only_if, account_verdict, capture_verdict, completed_verdict, each_leg_verdict, empty_verdict, entries_verdict, entry_verdict, id_verdict, inclusion_verdict, intermediary_verdict, leg_tied_verdict, numbers_verdict, side_verdict, sides_verdict, tables_verdict, ties_verdict, unnumbered_verdict}
use Rattle.std.proofs.lemmas.Bool.Decides.{nat_tests}
use Rattle.fields.specs.declared.account.AccountType.{AccountType}
use Rattle.fields.specs.Ranges.{is_in_range}
use Rattle.requests.specs.Tests.{Test, field_tests}
use Rattle.requests.specs.Tests as requests
use Rattle.std.proofs.Common.{Err}
use Rattle.fields.specs.declared.ground.Ground.TheVariants.{BadField}
use Rattle.book.specs.Fields.{as_verdict}
use Rattle.book.specs.Verdicts.{closing_verdict, leg_opposite_verdict, opposite_verdict, opposites_verdict, outside_verdict}

-- the verdict is a refusal on the ground with this number
abbrev pub on_ground : ℕ → Option Refusal → Bool
on_ground k None = false
on_ground k (Some f) = eqb (number_of f.ground) k

-- it is not
pub record Off (k : ℕ) (v : Option Refusal) : Type 0 where
  pub off : on_ground k v ≡ false

pub not_on : (k : ℕ) (v : Option Refusal) (f : Refusal) → Off k v → v ≡ Some f → number_of f.ground ≡ k → ⊥
not_on k v f h e d = both_ways _ (sym (ap (on_ground k) e) ∙ h.off) (eq-eqb _ _ d)

pub turns_if : {k : ℕ} {a b : Option Refusal} → Off k a → (a ≡ None → Off k b) → Off k (in_turn a b)
turns_if {k} {a} {b} h i = go a h i
  where
    go : (a : Option Refusal) → Off k a → (a ≡ None → Off k b) → Off k (in_turn a b)
    go None h i = i refl
    go (Some f) h i = h

pub turns : {k : ℕ} {a b : Option Refusal} → Off k a → Off k b → Off k (in_turn a b)
turns h i = turns_if h (λ _. i)

pub tested : (k : ℕ) (b : Bool) (v : Option Refusal) (f : Refusal) → (b ≡ true → Off k v) → (b ≡ false → on_ground k (Some f) ≡ false) → Off k (cond b v (Some f))
tested k true v f h i = h refl
tested k false v f h i = record { off = i refl }

pub none_off : (k : ℕ) → Off k None
none_off k = record { off = refl }

pub asked : (k : ℕ) (b : Bool) (v : Option Refusal) → (b ≡ true → Off k v) → Off k (only_if b v)
asked k true v h = h refl
asked k false v h = record { off = refl }

pub legs : (k : ℕ) (x : Intermediation) (v : ℕ → Side → Option Refusal) → ((place : ℕ) (w : Side) → Off k (v place w)) → Off k (each_leg_verdict x v)
legs k x v h = turns (asked k (has_leg Buyer x) (v 1 Buyer) (λ _. h 1 Buyer)) (asked k (has_leg Seller x) (v 2 Seller) (λ _. h 2 Seller))

-- ── Segments that refuse neither for a broken chain, 9, nor for the length of one, 30 ──

abbrev pub Calm : Option Refusal → Type 0
Calm v = Off 9 v × Off 30 v

calm_none : Calm None
calm_none = (record { off = refl }, record { off = refl })

calm_turns : (a b : Option Refusal) → Calm a → Calm b → Calm (in_turn a b)
calm_turns a b h i = (turns h.0 i.0, turns h.1 i.1)

pub calm_tables_verdict : (ts : Table Trade) (xs : Table Intermediation) (ps : Table Pair) → Calm (tables_verdict ts xs ps)
unfolding tables_verdict
calm_tables_verdict ts xs ps = (record { off = grind (arith, nat_tests) }, record { off = grind (arith, nat_tests) })

pub calm_capture_verdict : (day minute : ℕ) (ts : Table Trade) (t : Terms) → Calm (capture_verdict day minute ts t)
unfolding capture_verdict
calm_capture_verdict day minute ts t = (record { off = grind (arith, nat_tests) }, record { off = grind (arith, nat_tests) })

pub calm_side_verdict : (place caller : ℕ) (w : Side) (t : Trade) → Calm (side_verdict place caller w t)
unfolding side_verdict
calm_side_verdict place caller w t = (record { off = grind (arith, nat_tests) }, record { off = grind (arith, nat_tests) })

pub calm_empty_verdict : (st : AllocationState) → Calm (empty_verdict st)
unfolding empty_verdict
calm_empty_verdict st = (record { off = grind (arith, nat_tests) }, record { off = grind (arith, nat_tests) })

pub calm_account_verdict : (r : List Listed) (day caller : ℕ) (w : Side) (t : Terms) (place : ℕ) (e : Entry) → Calm (account_verdict r day caller w t place e)
unfolding account_verdict
calm_account_verdict r day caller w t place e = (record { off = grind (arith, nat_tests) }, record { off = grind (arith, nat_tests) })

pub calm_opposite_verdict : (k : AccountType) (es : List KeptEntry) (place : ℕ) (e : Entry) → Calm (opposite_verdict k es place e)
unfolding opposite_verdict
calm_opposite_verdict k es place e = (record { off = grind (arith, nat_tests) }, record { off = grind (arith, nat_tests) })

pub calm_inclusion_verdict : (b : Bool) (n : ℕ) (es : List Entry) (ks : List KeptEntry) → Calm (inclusion_verdict b n es ks)
unfolding inclusion_verdict
calm_inclusion_verdict b n es ks = (record { off = grind (arith, nat_tests) }, record { off = grind (arith, nat_tests) })

pub calm_outside_verdict : (ks : List KeptEntry) → Calm (outside_verdict ks)
unfolding outside_verdict
calm_outside_verdict ks = (record { off = grind (arith, nat_tests) }, record { off = grind (arith, nat_tests) })

pub calm_id_verdict : (xs : Table Intermediation) (n : ℕ) → Calm (id_verdict xs n)
unfolding id_verdict
calm_id_verdict xs n = (record { off = grind (arith, nat_tests) }, record { off = grind (arith, nat_tests) })

pub calm_intermediary_verdict : (r : List Listed) (day : ℕ) (k : Kind) (n : ℕ) → Calm (intermediary_verdict r day k n)
unfolding intermediary_verdict
calm_intermediary_verdict r day k n = (record { off = grind (arith, nat_tests) }, record { off = grind (arith, nat_tests) })

pub calm_sides_verdict : (ts : List Trade) (x : Intermediation) → Calm (sides_verdict ts x)
unfolding sides_verdict
calm_sides_verdict ts x = (record { off = grind (arith, nat_tests) }, record { off = grind (arith, nat_tests) })

pub calm_unnumbered_verdict : (ts : List Trade) (xs : List Intermediation) (n : ℕ) → Calm (unnumbered_verdict ts xs n)
unfolding unnumbered_verdict
calm_unnumbered_verdict ts xs n = (record { off = grind (arith, nat_tests) }, record { off = grind (arith, nat_tests) })

pub calm_closing_verdict : (day : ℕ) (q : Closing) → Calm (closing_verdict day q)
unfolding closing_verdict
calm_closing_verdict day q = (record { off = grind (arith, nat_tests) }, record { off = grind (arith, nat_tests) })

calm_tested : (ts : List Test) → Calm (as_verdict (requests.tested ts))
calm_tested [] = calm_none
calm_tested (t ∷ ts) =
    let h = calm_tested ts in
    let P : Bool → Type 0 = λ b. Calm (as_verdict (cond b (requests.tested ts) (Err (record { ground = BadField; place = t.place })))) in
    elim (is_in_range t.range t.value) as P [ true ↦ h | false ↦ (record { off = refl }, record { off = refl }) ]

pub calm_entries : (r : List Listed) (day caller : ℕ) (w : Side) (t : Trade) (place : ℕ) (es : List Entry) → Calm (entries_verdict r day caller w t place es)
unfolding entries_verdict entry_verdict
calm_entries r day caller w t place [] = calm_none
calm_entries r day caller w t place (e ∷ es) =
    calm_turns _ _ (calm_turns _ _ (calm_account_verdict r day caller w t.terms place e) (calm_opposite_verdict (shown r e.account).class (held (allocation (other w) t)) place e)) (calm_entries r day caller w t (place + 1) es)

pub calm_numbers : (c : List Trade) (selic control : List ℕ) (ps : Table Pair) → Calm (numbers_verdict c selic control ps)
unfolding numbers_verdict
calm_numbers [] selic control ps = calm_none
calm_numbers (t ∷ c) selic control ps = (record { off = grind (arith, nat_tests) }, record { off = grind (arith, nat_tests) })

pub calm_completed : (r : List Listed) (s : State) (q : Request) → Calm (completed_verdict r s q)
unfolding completed_verdict
calm_completed r s q = calm_numbers (completed r s q) s.selic s.control s.pairs

pub calm_ties : (r : List Listed) (ts : List Trade) (x : Intermediation) → Calm (ties_verdict r ts x)
unfolding ties_verdict leg_tied_verdict
calm_ties r ts x = (record { off = grind (arith, nat_tests) }, record { off = grind (arith, nat_tests) })

pub calm_opposites : (ts : List Trade) (x : Intermediation) → Calm (opposites_verdict ts x)
unfolding opposites_verdict leg_opposite_verdict
calm_opposites ts x = (record { off = grind (arith, nat_tests) }, record { off = grind (arith, nat_tests) })

pub calm_fields : (q : Request) → Calm (fields_verdict q)
unfolding fields_verdict
calm_fields q = calm_tested (field_tests q)
