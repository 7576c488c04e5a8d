-- What is read passes the tests of a direct call, and a refusal stands where its ground may.
use Rattle.std.proofs.Common.{◌≡◌, ℕ, zero, suc, ◌+◌, ◌-◌, ◌*◌, ◌≤◌, Bool, true, false, cond, eqb, leb, List, [], ◌∷◌, length, take, replicate, IfOk, IfErr, Some, None, Ok, Err, Option, Result, sym, refl, ap, ◌∙◌, subst, arith}
use Rattle.std.proofs.lemmas.Bool.{le-leb, leb-true, and_parts}
use Rattle.std.proofs.lemmas.Bool.Decides.{nat_tests}
use Rattle.std.proofs.lemmas.List.{take_at}
use Rattle.fields.specs.declared.range.Range.{Range}
use Rattle.fields.specs.declared.answer.Refusal.{Refusal}
use Rattle.fields.specs.declared.account.Party.{Party}
use Rattle.fields.specs.declared.trade.Entry.{Entry}
use Rattle.fields.specs.Grounds.{may_stand}
use Rattle.fields.specs.Ranges.{is_in_range, minutes, numbers, numbers_or_none, participants, accounts, quantities, days, flags, entry_counts}
use Rattle.fields.specs.declared.ground.Ground.TheVariants.{BadField, FieldCount}
use Rattle.text.specs.Fields.{number, numeral, within}
use Rattle.text.specs.Reading.{refusal, field, then, readable, end}
use Rattle.requests.specs.Tests.{tested, entry_tests, fields_pass, sold_range, side_call_tests, intermediation_call_tests}
use Rattle.requests.proofs.Tested.{passed_on}
use Rattle.requests.specs.declared.request.Request.{Request}
use Rattle.requests.specs.declared.request.Request.TheVariants.{Remove, Confirm, ConfirmIntermediation, ExcludeIntermediation}
use Rattle.requests.specs.declared.request.SideCall.{SideCall}
use Rattle.requests.specs.declared.request.IntermediationCall.{IntermediationCall}
use Rattle.text.specs.Groups.{entry, entry_group, party, table, values}
use Rattle.text.specs.Words.{kind, side}
use Rattle.request_text.specs.Lines.{capture_line, cancel_line, include_line, side_call_line, intermediate_line, intermediation_call_line, close_line, by_letter}

abbrev pub Placed : Refusal → Type 0
Placed f = may_stand f.ground f.place ≡ true

-- what is read has Q, a refusal stands in its place
abbrev pub Sound : {B : Type 0} → (B → Type 0) → Result B Refusal → Type 0
Sound Q (Ok v) = Q v
Sound Q (Err f) = Placed f

-- both faults of a field may stand at k
abbrev pub FieldAt : ℕ → Type 0
FieldAt k = Placed (refusal BadField k) × Placed (refusal FieldCount k)

pub is_field : (k : ℕ) → 2 ≤ k → k ≤ 55 → FieldAt k
is_field k lo hi =
    let a : leb 2 k ≡ true = le-leb 2 k lo in
    let b : leb k 55 ≡ true = le-leb k 55 hi in
    let d : leb k 56 ≡ true = le-leb k 56 (omega arith) in
    (grind (arith, nat_tests), grind (arith, nat_tests))

pub is_absent : (k : ℕ) → 2 ≤ k → k ≤ 56 → Placed (refusal FieldCount k)
is_absent k lo hi =
    let a : leb 2 k ≡ true = le-leb 2 k lo in
    let b : leb k 56 ≡ true = le-leb k 56 hi in
    grind (arith, nat_tests)

module _ {B : Type 0} (Q : B → Type 0) where
  pub then_sound : {A : Type 0} (P : A → Type 0) (r : Result A Refusal) (go : A → Result B Refusal) → Sound P r → ((x : A) → P x → Sound Q (go x)) → Sound Q (then r go)
  then_sound P (Ok x) go s more = more x s
  then_sound P (Err f) go s more = s

pub number_sound : (r : Range) (k : ℕ) (fs : List (List ℕ)) → FieldAt k → Sound (λ p. is_in_range r p.0 ≡ true) (field (number r) k fs)
number_sound r k [] at = at.1
number_sound r k (f ∷ fs) at = go (numeral f)
  where
    go : (o : Option ℕ) → Sound (λ p. is_in_range r p.0 ≡ true) (readable (within r o) k fs)
    go None = at.0
    go (Some v) =
        let P : Bool → Type 0 = λ t. is_in_range r v ≡ t → Sound (λ p. is_in_range r p.0 ≡ true) (readable (cond t (Some v) None) k fs) in
        (elim (is_in_range r v) as P [ true ↦ λ e. e | false ↦ λ e. at.0 ]) refl

pub letter_sound : {A : Type 0} (read : List ℕ → Option A) (k : ℕ) (fs : List (List ℕ)) → FieldAt k → Sound (λ _. Unit {0}) (field read k fs)
letter_sound read k [] at = at.1
letter_sound {A} read k (f ∷ fs) at = go (read f)
  where
    go : (o : Option A) → Sound (λ _. Unit {0}) (readable o k fs)
    go None = at.0
    go (Some v) = tt

pub end_sound : (k : ℕ) (fs : List (List ℕ)) → Placed (refusal FieldCount k) → Sound (λ _. Unit {0}) (end k fs)
end_sound k [] at = tt
end_sound k (f ∷ fs) at = at

-- a number, a letter and the end, and what is read behind them
module _ {B : Type 0} (Q : B → Type 0) where
  pub by_number : (r : Range) (k : ℕ) (fs : List (List ℕ)) (go : ℕ × List (List ℕ) → Result B Refusal) → FieldAt k → ((x : ℕ) (rest : List (List ℕ)) → is_in_range r x ≡ true → Sound Q (go (x, rest))) → Sound Q (then (field (number r) k fs) go)
  by_number r k fs go at more = then_sound Q (λ p. is_in_range r p.0 ≡ true) (field (number r) k fs) go (number_sound r k fs at) (λ p h. more p.0 p.1 h)

  pub by_letter_field : {A : Type 0} (read : List ℕ → Option A) (k : ℕ) (fs : List (List ℕ)) (go : A × List (List ℕ) → Result B Refusal) → FieldAt k → ((x : A) (rest : List (List ℕ)) → Sound Q (go (x, rest))) → Sound Q (then (field read k fs) go)
  by_letter_field read k fs go at more = then_sound Q (λ _. Unit {0}) (field read k fs) go (letter_sound read k fs at) (λ p _. more p.0 p.1)

  pub by_end : (k : ℕ) (fs : List (List ℕ)) (v : B) → Placed (refusal FieldCount k) → Q v → Sound Q (then (end k fs) (λ _. Ok v))
  by_end k fs v at q = then_sound Q (λ _. Unit {0}) (end k fs) (λ _. Ok v) (end_sound k fs at) (λ _ _. q)

  pub by_party : (k : ℕ) (fs : List (List ℕ)) (go : Party × List (List ℕ) → Result B Refusal) → FieldAt k → FieldAt (k + 1) → ((x : Party) (rest : List (List ℕ)) → (is_in_range participants x.participant ≡ true) × (is_in_range participants x.offeror ≡ true) → Sound Q (go (x, rest))) → Sound Q (then (party k fs) go)
  by_party k fs go at next more =
      let P : Party × List (List ℕ) → Type 0 = λ p. (is_in_range participants p.0.participant ≡ true) × (is_in_range participants p.0.offeror ≡ true) in
      let read : Sound P (party k fs) =
      then_sound P (λ p. is_in_range participants p.0 ≡ true) (field (number participants) k fs) _ (number_sound participants k fs at) (λ p hp.
      then_sound P (λ o. is_in_range participants o.0 ≡ true) (field (number participants) (k + 1) p.1) _ (number_sound participants (k + 1) p.1 next) (λ o ho. (hp, ho))) in
      then_sound Q P (party k fs) go read (λ p h. more p.0 p.1 h)

abbrev Passes : Request → Type 0
Passes v = fields_pass v ≡ Ok tt

capture_sound : (fs : List (List ℕ)) → Sound Passes (capture_line fs)
capture_sound fs =
    by_number Passes minutes 2 fs _ (refl, refl) (λ m fs hm.
    by_number Passes numbers 3 fs _ (refl, refl) (λ t fs ht.
    by_letter_field Passes kind 4 fs _ (refl, refl) (λ k fs.
    by_number Passes numbers 5 fs _ (refl, refl) (λ a fs ha.
    by_number Passes quantities 6 fs _ (refl, refl) (λ q fs hq.
    by_number Passes days 7 fs _ (refl, refl) (λ d fs hd.
    by_party Passes 8 fs _ (refl, refl) (refl, refl) (λ b fs hb.
    by_party Passes 10 fs _ (refl, refl) (refl, refl) (λ s fs hs.
    by_end Passes 12 fs _ refl (rw (hm, ht, ha, hq, hd, hb.0, hb.1, hs.0, hs.1))))))))))

cancel_sound : (fs : List (List ℕ)) → Sound Passes (cancel_line fs)
cancel_sound fs =
    by_number Passes minutes 2 fs _ (refl, refl) (λ m fs hm.
    by_number Passes numbers 3 fs _ (refl, refl) (λ t fs ht.
    by_end Passes 4 fs _ refl (rw (hm, ht))))

-- the entries that are read pass, and there are n of them
abbrev ReadEntries : ℕ → ℕ → List Entry × List (List ℕ) → Type 0
ReadEntries n k p = (tested (entry_tests k p.0) ≡ Ok tt) × (length p.0 ≡ n)

entry_sound : (k : ℕ) (fs : List (List ℕ)) → 2 ≤ k → k ≤ 53 → Sound (λ p. tested (entry_tests k (p.0 ∷ [])) ≡ Ok tt) (entry k fs)
entry_sound k fs lo hi =
    let Q : Entry × List (List ℕ) → Type 0 = λ p. tested (entry_tests k (p.0 ∷ [])) ≡ Ok tt in
    by_number Q accounts k fs _ (is_field k lo (omega arith)) (λ a fs ha.
    by_number Q quantities (k + 1) fs _ (is_field (k + 1) (omega arith) (omega arith)) (λ q fs hq.
    by_number Q numbers_or_none (k + 2) fs _ (is_field (k + 2) (omega arith) (omega arith)) (λ c fs hc.
    rw (ha, hq, hc))))

entries_sound : (n k : ℕ) (fs : List (List ℕ)) → 2 ≤ k → k + 3 * n ≤ 56 → Sound (ReadEntries n k) (values entry_group n k fs)
entries_sound zero k fs lo hi = (refl, refl)
entries_sound (suc n) k fs lo hi =
    then_sound (ReadEntries (suc n) k) (λ p. tested (entry_tests k (p.0 ∷ [])) ≡ Ok tt) (entry k fs) _ (entry_sound k fs lo (omega arith))
    (λ e he. then_sound (ReadEntries (suc n) k) (ReadEntries n (k + 3)) (values entry_group n (k + 3) e.1) _ (entries_sound n (k + 3) e.1 (omega arith) (omega arith))
    (λ es hes. (passed_on (entry_tests k (e.0 ∷ [])) (entry_tests (k + 3) es.0) he ∙ hes.0, ap suc hes.1)))

table_sound : (n : ℕ) (fs : List (List ℕ)) → n ≤ 16 → Sound (λ p. tested (entry_tests 8 (take n p.0)) ≡ Ok tt) (table entry_group 16 n 8 fs)
table_sound n fs le =
    then_sound (λ p. tested (entry_tests 8 (take n p.0)) ≡ Ok tt) (ReadEntries n 8) (values entry_group n 8 fs) _ (entries_sound n 8 fs (omega arith) (omega arith))
    (λ es h. ap (λ l. tested (entry_tests 8 l)) (take_at es.0 (replicate (16 - length es.0) entry_group.blank) n h.1) ∙ h.0)

include_sound : (fs : List (List ℕ)) → Sound Passes (include_line fs)
include_sound fs =
    by_number Passes minutes 2 fs _ (refl, refl) (λ m fs hm.
    by_number Passes participants 3 fs _ (refl, refl) (λ p fs hp.
    by_number Passes numbers 4 fs _ (refl, refl) (λ t fs ht.
    by_letter_field Passes side 5 fs _ (refl, refl) (λ s fs.
    by_number Passes flags 6 fs _ (refl, refl) (λ w fs hw.
    by_number Passes entry_counts 7 fs _ (refl, refl) (λ n fs hn.
    let le : n ≤ 16 = leb-true n 16 (and_parts (leb 1 n) (leb n 16) hn).1 in
    then_sound Passes (λ p. tested (entry_tests 8 (take n p.0)) ≡ Ok tt) (table entry_group 16 n 8 fs) _ (table_sound n fs le) (λ es hes.
    by_end Passes (8 + 3 * n) es.1 _ (is_absent (8 + 3 * n) (omega arith) (omega arith)) (rw (hm, hp, ht, hn) hes))))))))

side_call_sound : (fs : List (List ℕ)) → Sound (λ c. tested (side_call_tests c) ≡ Ok tt) (side_call_line fs)
side_call_sound fs =
    let Q : SideCall → Type 0 = λ c. tested (side_call_tests c) ≡ Ok tt in
    by_number Q minutes 2 fs _ (refl, refl) (λ m fs hm.
    by_number Q participants 3 fs _ (refl, refl) (λ p fs hp.
    by_number Q numbers 4 fs _ (refl, refl) (λ t fs ht.
    by_letter_field Q side 5 fs _ (refl, refl) (λ s fs.
    by_end Q 6 fs _ refl (rw (hm, hp, ht))))))

intermediate_sound : (fs : List (List ℕ)) → Sound Passes (intermediate_line fs)
intermediate_sound fs =
    by_number Passes minutes 2 fs _ (refl, refl) (λ m fs hm.
    by_number Passes participants 3 fs _ (refl, refl) (λ p fs hp.
    by_number Passes numbers 4 fs _ (refl, refl) (λ i fs hi.
    by_number Passes accounts 5 fs _ (refl, refl) (λ a fs ha.
    by_number Passes numbers_or_none 6 fs _ (refl, refl) (λ b fs hb.
    by_number Passes (sold_range b) 7 fs _ (refl, refl) (λ s fs hs.
    by_number Passes flags 8 fs _ (refl, refl) (λ w fs hw.
    by_end Passes 9 fs _ refl (rw (hm, hp, hi, ha, hb, hs)))))))))

intermediation_call_sound : (fs : List (List ℕ)) → Sound (λ c. tested (intermediation_call_tests c) ≡ Ok tt) (intermediation_call_line fs)
intermediation_call_sound fs =
    let Q : IntermediationCall → Type 0 = λ c. tested (intermediation_call_tests c) ≡ Ok tt in
    by_number Q minutes 2 fs _ (refl, refl) (λ m fs hm.
    by_number Q participants 3 fs _ (refl, refl) (λ p fs hp.
    by_number Q numbers 4 fs _ (refl, refl) (λ i fs hi.
    by_end Q 5 fs _ refl (rw (hm, hp, hi)))))

close_sound : (fs : List (List ℕ)) → Sound Passes (close_line fs)
close_sound fs =
    by_number Passes minutes 2 fs _ (refl, refl) (λ m fs hm.
    by_number Passes days 3 fs _ (refl, refl) (λ d fs hd.
    by_end Passes 4 fs _ refl (rw (hm, hd))))

-- one of two readings, by a test
either_sound : {B : Type 0} (Q : B → Type 0) (b : Bool) (r s : Result B Refusal) → Sound Q r → Sound Q s → Sound Q (cond b r s)
either_sound Q true r s h k = h
either_sound Q false r s h k = k

-- a call on a side or on an intermediation, as the request that it makes
side_request : (make : SideCall → Request) → ((c : SideCall) → tested (side_call_tests c) ≡ Ok tt → Passes (make c)) → (fs : List (List ℕ)) → Sound Passes (then (side_call_line fs) (λ c. Ok (make c)))
side_request make is fs = then_sound Passes (λ c. tested (side_call_tests c) ≡ Ok tt) (side_call_line fs) (λ c. Ok (make c)) (side_call_sound fs) is

intermediation_request : (make : IntermediationCall → Request) → ((c : IntermediationCall) → tested (intermediation_call_tests c) ≡ Ok tt → Passes (make c)) → (fs : List (List ℕ)) → Sound Passes (then (intermediation_call_line fs) (λ c. Ok (make c)))
intermediation_request make is fs = then_sound Passes (λ c. tested (intermediation_call_tests c) ≡ Ok tt) (intermediation_call_line fs) (λ c. Ok (make c)) (intermediation_call_sound fs) is

by_letter_sound : (o : Option ℕ) (fs : List (List ℕ)) → Sound Passes (by_letter o fs)
by_letter_sound None fs = refl
by_letter_sound (Some b) fs =
    either_sound Passes (eqb b 67) _ _ (capture_sound fs) (
    either_sound Passes (eqb b 88) _ _ (cancel_sound fs) (
    either_sound Passes (eqb b 73) _ _ (include_sound fs) (
    either_sound Passes (eqb b 68) _ _ (side_request Remove (λ c h. h) fs) (
    either_sound Passes (eqb b 70) _ _ (side_request Confirm (λ c h. h) fs) (
    either_sound Passes (eqb b 74) _ _ (intermediate_sound fs) (
    either_sound Passes (eqb b 71) _ _ (intermediation_request ConfirmIntermediation (λ c h. h) fs) (
    either_sound Passes (eqb b 69) _ _ (intermediation_request ExcludeIntermediation (λ c h. h) fs) (
    either_sound Passes (eqb b 90) _ _ (close_sound fs) refl))))))))

-- what is promised of a result that the letter and what stands behind it decide
module _ (o : Option ℕ) (fs : List (List ℕ)) (r : Result Request Refusal) (is : r ≡ by_letter o fs) where
  pub read_passes : IfOk r Passes
  read_passes = go r (subst (Sound Passes) (sym is) (by_letter_sound o fs))
    where
      go : (q : Result Request Refusal) → Sound Passes q → IfOk q Passes
      go (Ok v) h = h
      go (Err f) h = tt

  pub read_placed : IfErr r Placed
  read_placed = go r (subst (Sound Passes) (sym is) (by_letter_sound o fs))
    where
      go : (q : Result Request Refusal) → Sound Passes q → IfErr q Placed
      go (Ok v) h = tt
      go (Err f) h = h
