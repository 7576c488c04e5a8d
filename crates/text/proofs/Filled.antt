-- The values of a table, one more in each turn.
use Rattle.std.proofs.Common.{◌≡◌, ℕ, suc, ◌+◌, ◌-◌, ◌*◌, ◌<◌, ◌≤◌, List, [], ◌∷◌, ◌++◌, length, take, drop, set, replicate, Ok, Err, Result, sym, refl, ap, ◌∙◌, append_assoc, arith, subst, length-set, length-take-le}
use Rattle.std.proofs.lemmas.List.{take_more_set, drop-replicate, length-replicate}
use Rattle.fields.specs.declared.answer.Refusal.{Refusal}
use Rattle.text.specs.Reading.{then}
use Rattle.text.specs.Groups.{GroupOf, values, table}

module _ {A : Type 0} where
  -- vs before the values that are read
  abbrev pub prefixed : List A → Result (List A × List (List ℕ)) Refusal → Result (List A × List (List ℕ)) Refusal
  prefixed vs r = then r (λ q. Ok (vs ++ q.0, q.1))

  prefixed_more : (vs : List A) (v : A) (r : Result (List A × List (List ℕ)) Refusal) → prefixed vs (then r (λ q. Ok (v ∷ q.0, q.1))) ≡ prefixed (vs ++ (v ∷ [])) r
  prefixed_more vs v (Ok q) = ap (λ (l : List A). Ok (l, q.1)) (sym (append_assoc vs (v ∷ []) q.0))
  prefixed_more vs v (Err x) = refl

module _ {A : Type 0} (group : GroupOf A) where
  -- what is read so far, up to the slot i, and where the next value is
  pub record Sofar (slots : List A) (i first place : ℕ) (from now : List (List ℕ)) : Type 0 where
    pub at : place ≡ first + group.width * i
    pub reads : values group (length slots) first from ≡ prefixed (take i slots) (values group (length slots - i) place now)

  module _ (slots : List A) (i first place : ℕ) (from now : List (List ℕ)) (lt : i < length slots) (s : Sofar slots i first place from now) where
    pub one_more : (v : A) (more : List (List ℕ)) → group.read place now ≡ Ok (v, more) → Sofar (set slots i v) (i + 1) first (place + group.width) from more
    one_more v more h =
        let m : ℕ = length slots - (i + 1) in
        let k : length slots - i ≡ suc m = omega arith in
        let r : Result (List A × List (List ℕ)) Refusal = values group m (place + group.width) more in
        let a : values group (length slots - i) place now ≡ then r (λ q. Ok (v ∷ q.0, q.1)) = rw (k, h) in
        let n : length (set slots i v) ≡ length slots = length-set slots i v in
        record {
          at = omega (arith, s.at);
          reads = rw n (s.reads ∙ ap (prefixed (take i slots)) a ∙ prefixed_more (take i slots) v r ∙ ap (λ l. prefixed l r) (sym (take_more_set slots i v lt)));
        }

  -- a table of blanks, of which the first n are slots that are filled
  pub table_is : (size n k : ℕ) (b : A) → b ≡ group.blank → n ≤ size → (fs more : List (List ℕ)) (vs : List A) → length vs ≡ length (take n (replicate size b)) → values group (length (take n (replicate size b))) k fs ≡ Ok (vs, more) → table group size n k fs ≡ Ok (vs ++ drop n (replicate size b), more)
  table_is size n k b blank le fs more vs l e =
      let t : length (take n (replicate size b)) ≡ n = length-take-le n (replicate size b) (omega (arith, length-replicate size b)) in
      let m : length vs ≡ n = l ∙ t in
      let r : values group n k fs ≡ Ok (vs, more) = subst (λ j. values group j k fs ≡ Ok (vs, more)) t e in
      rw (r, m, drop-replicate n size b, blank)
