-- The requests that confirm a side, and a trade of the chain in which they do.
use Rattle.keyed.proofs.Words.{Bool, None, Some, cond, false, refl, subst, true, ℕ, ◌≡◌}
use Rattle.law.proofs.Subject.{Cancel, Capture, Close, Confirm, ConfirmIntermediation, ExcludeIntermediation, Include, Inclusion, Intermediate, IntermediationCall, NewIntermediation, Remove, Request, SideCall, any_leg, confirms_in, State, intermediation}
use Rattle.keyed.proofs.Lists.{none_some, some_same}

pub data Confirmer (s : State) : Request → ℕ → Type 0 where
  including : (q : Inclusion) → q.now ≡ true → Confirmer s (Include q) q.trade
  one_side : (q : SideCall) → Confirmer s (Confirm q) q.trade
  intermediating : (q : NewIntermediation) → q.now ≡ true → Confirmer s (Intermediate q) (any_leg q.intermediation)
  two_sides : (q : IntermediationCall) → Confirmer s (ConfirmIntermediation q) (any_leg (intermediation s q.id))

pub confirmer : (s : State) (q : Request) (n : ℕ) → confirms_in s q ≡ Some n → Confirmer s q n
confirmer s (Capture q) n e = absurd (none_some n e)
confirmer s (Cancel q) n e = absurd (none_some n e)
confirmer s (Include q) n e = go q.now refl e
  where
    go : (b : Bool) → q.now ≡ b → cond b (Some q.trade) None ≡ Some n → Confirmer s (Include q) n
    go true now d = subst (Confirmer s (Include q)) (some_same q.trade n d) (including q now)
    go false now d = absurd (none_some n d)
confirmer s (Remove q) n e = absurd (none_some n e)
confirmer s (Confirm q) n e = subst (Confirmer s (Confirm q)) (some_same q.trade n e) (one_side q)
confirmer s (Intermediate q) n e = go q.now refl e
  where
    go : (b : Bool) → q.now ≡ b → cond b (Some (any_leg q.intermediation)) None ≡ Some n → Confirmer s (Intermediate q) n
    go true now d = subst (Confirmer s (Intermediate q)) (some_same (any_leg q.intermediation) n d) (intermediating q now)
    go false now d = absurd (none_some n d)
confirmer s (ConfirmIntermediation q) n e = subst (Confirmer s (ConfirmIntermediation q)) (some_same (any_leg (intermediation s q.id)) n e) (two_sides q)
confirmer s (ExcludeIntermediation q) n e = absurd (none_some n e)
confirmer s (Close q) n e = absurd (none_some n e)
