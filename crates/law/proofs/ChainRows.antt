-- The trades of a completed chain are rows, with the terms that the plain book has.
use Rattle.keyed.proofs.Words.{Bool, true, false, cond, List, [], ◌∷◌, ◌++◌, map, ⊎_elim, ◌≡◌, refl, sym, ap, subst, ◌∙◌, ℕ, zero, suc, arith, eqb, length, cases_Bool, cond_both, Option, Some, None}
use Rattle.law.proofs.Subject.{Intermediation, Side, Buyer, Seller, or_else, all, is_some, Each, find, changed, Listed, Request, is_selic, other, confirmed, id, leg, number, both_confirmed, at_side, no_trade, Trade, trade_in, Beyond, nothing, broken, tied_back, by_intermediation, beyond, onto, way, together, chain, a_trade, by_tie, tie_in, tie_of, onward, placed, confirms_in, chain_confirmed, completed, History, Beginning, State, trade, intermediation, chain_of, Agrees, Plain, plain, terms_in}
use Rattle.std.proofs.Common.{leb, reverse}
use mathlib.Core.List.{reverse-append}
use Rattle.keyed.proofs.Keys.{row_found, seen_kept}
use Rattle.keyed.proofs.Lists.{none_by, some_of, each_append, each_map}
use Rattle.rows.proofs.Sides.{side_terms}
use Rattle.book.specs.State.{chain_in}
use Rattle.law.proofs.Confirmers.{Confirmer, confirmer, including, intermediating, one_side, two_sides}
use Rattle.law.proofs.Events.{KindKnown}
use Rattle.law.proofs.Fair.{terms_known}

-- ── The plain book's terms ──

-- ── Rows found ──

abbrev pub Found : List Trade → Trade → Type 0
Found ts u = find number (number u) ts ≡ Some u

pub found_self : (n : ℕ) (ts : List Trade) (u : Trade) → find number n ts ≡ Some u → Found ts u
found_self n ts u h = ap (λ k. find number k ts) (row_found number n ts u h).1 ∙ h

-- ── The trades of a chain are rows ──

abbrev Here : List Trade → ℕ → Type 0
Here ts n = is_some (find number n ts) ≡ true

tie_here : (ts : List Trade) (w : Side) (n : ℕ) (o : Option Trade) → is_some (tie_of w o) ≡ true → is_some o ≡ true
tie_here ts w n None h = h
tie_here ts w n (Some t) h = refl

back_here : (ts : List Trade) (id n m : ℕ) (o : Option ℕ) → tied_back id n o ≡ a_trade m → (n ≡ m) × (is_some o ≡ true)
back_here ts id n m None h = let z : ◌≡◌ {A = ℕ} 0 1 = cc in absurd (omega arith)
back_here ts id n m (Some k) h = go (eqb k id) h
  where
    go : (z : Bool) → cond z (a_trade n) broken ≡ a_trade m → (n ≡ m) × (is_some (Some k) ≡ true)
    go true h = let same : n ≡ m = cc in (same, refl)
    go false h = let z : ◌≡◌ {A = ℕ} 0 1 = cc in absurd (omega arith)

by_here : (ts : List Trade) (w : Side) (n m : ℕ) (o : Option Intermediation) → by_intermediation (tie_in ts) w n o ≡ a_trade m → Here ts m
by_here ts w n m None h = let z : ◌≡◌ {A = ℕ} 0 1 = cc in absurd (omega arith)
by_here ts w n m (Some x) h = go (eqb (leg w x) n) (eqb (leg (other w) x) 0) h
  where
    go : (y z : Bool) → cond y (cond z nothing (tied_back x.id (leg (other w) x) (tie_in ts (other w) (leg (other w) x)))) broken ≡ a_trade m → Here ts m
    go true true h = let z : ◌≡◌ {A = ℕ} 0 1 = cc in absurd (omega arith)
    go true false h =
        let p = back_here ts x.id (leg (other w) x) m (tie_in ts (other w) (leg (other w) x)) h in
        subst (Here ts) p.0 (tie_here ts (other w) (leg (other w) x) (find number (leg (other w) x) ts) p.1)
    go false z h = let n : ◌≡◌ {A = ℕ} 0 1 = cc in absurd (omega arith)

pub beyond_here : (ts : List Trade) (xs : List Intermediation) (w : Side) (n m : ℕ) → beyond (tie_in ts) xs w n ≡ a_trade m → Here ts m
unfolding beyond
beyond_here ts xs w n m h = go (tie_in ts w n) h
  where
    tied : (k : ℕ) (z : Bool) → cond z nothing (by_intermediation (tie_in ts) w n (find id k xs)) ≡ a_trade m → Here ts m
    tied k true h = let z : ◌≡◌ {A = ℕ} 0 1 = cc in absurd (omega arith)
    tied k false h = by_here ts w n m (find id k xs) h

    go : (o : Option ℕ) → by_tie (tie_in ts) xs w n o ≡ a_trade m → Here ts m
    go None h = let z : ◌≡◌ {A = ℕ} 0 1 = cc in absurd (omega arith)
    go (Some k) h = tied k (eqb k 0) h

-- of an answer that may be none
abbrev pub AllHere : List Trade → Option (List ℕ) → Type 0
AllHere ts None = Unit {0}
AllHere ts (Some ns) = Each (Here ts) ns

onto_here : (ts : List Trade) (n : ℕ) (o : Option (List ℕ)) → Here ts n → AllHere ts o → AllHere ts (onto n o)
onto_here ts n None h k = tt
onto_here ts n (Some ns) h k = (h, k)

pub way_here : (ts : List Trade) (xs : List Intermediation) (w : Side) (most n : ℕ) → AllHere ts (way (tie_in ts) xs w most n)
unfolding way
way_here ts xs w zero n = tt
way_here ts xs w (suc most) n = go (way_here ts xs w most) (beyond (tie_in ts) xs w n) refl
  where
    go : ((m : ℕ) → AllHere ts (way (tie_in ts) xs w most m)) → (z : Beyond) → beyond (tie_in ts) xs w n ≡ z → AllHere ts (onward z (λ m. way (tie_in ts) xs w most m))
    go ih nothing e = tt
    go ih (a_trade m) e = onto_here ts m (way (tie_in ts) xs w most m) (beyond_here ts xs w n m e) (ih m)
    go ih broken e = tt

each_reverse : {X : Type 0} (P : X → Type 0) (xs : List X) → Each P xs → Each P (reverse xs)
each_reverse P [] h = tt
each_reverse P (x ∷ xs) h = subst (Each P) (sym (reverse-append (x ∷ []) xs)) (each_append P (reverse xs) (x ∷ []) (each_reverse P xs h.1) (h.0, tt))

together_here : (ts : List Trade) (o p : Option (List ℕ)) (n : ℕ) → Here ts n → AllHere ts o → AllHere ts p → AllHere ts (together o n p)
together_here ts None p n f h k = tt
together_here ts (Some back) None n f h k = tt
together_here ts (Some back) (Some ahead) n f h k =
    cond_both (leb (length (reverse back ++ (n ∷ ahead))) 3) (Some (reverse back ++ (n ∷ ahead))) None (AllHere ts)
    (λ _. each_append (Here ts) (reverse back) (n ∷ ahead) (each_reverse (Here ts) back h) (f, k)) (λ _. tt)

pub chain_here : (ts : List Trade) (xs : List Intermediation) (n : ℕ) → Here ts n → AllHere ts (chain (tie_in ts) xs n)
unfolding chain
chain_here ts xs n f = together_here ts (way (tie_in ts) xs Seller 3 n) (way (tie_in ts) xs Buyer 3 n) n f (way_here ts xs Seller 3 n) (way_here ts xs Buyer 3 n)

here_found : (s : State) (ns : List ℕ) → Each (Here s.trades.rows) ns → Each (Found s.trades.rows) (map (trade s) ns)
here_found s [] h = tt
here_found s (n ∷ ns) h = (found_self n s.trades.rows (trade s n) (some_of no_trade (find number n s.trades.rows) h.0), here_found s ns h.1)

or_found : (s : State) (o : Option (List ℕ)) → AllHere s.trades.rows o → Each (Found s.trades.rows) (map (trade s) (or_else [] o))
or_found s None h = tt
or_found s (Some ns) h = here_found s ns h

no_chain : (ts : List Trade) (xs : List Intermediation) (n : ℕ) → find number n ts ≡ None → chain (tie_in ts) xs n ≡ None
unfolding chain way beyond
no_chain ts xs n e = ap (λ o. together (onward (by_tie (tie_in ts) xs Seller n (tie_of Seller o)) (λ m. way (tie_in ts) xs Seller 2 m)) n (way (tie_in ts) xs Buyer 3 n)) e

confirmed_found : (s : State) (n : ℕ) → Each (Found s.trades.rows) (chain_confirmed s (Some n))
confirmed_found s n = cond_both (all both_confirmed (chain_of s n)) (chain_of s n) [] (Each (Found s.trades.rows)) (λ _. found) (λ _. tt)
  where
    found : Each (Found s.trades.rows) (chain_of s n)
    found = ⊎_elim (λ (h : is_some (find number n s.trades.rows) ≡ true). or_found s (chain_in s n) (chain_here s.trades.rows s.intermediations.rows n h))
        (λ (h : is_some (find number n s.trades.rows) ≡ false).
        or_found s (chain_in s n) (subst (AllHere s.trades.rows) (sym (no_chain s.trades.rows s.intermediations.rows n (none_by _ h))) tt))
        (cases_Bool (is_some (find number n s.trades.rows)))

one_found : (s : State) (o : Option ℕ) → Each (Found s.trades.rows) (chain_confirmed s o)
one_found s None = tt
one_found s (Some n) = confirmed_found s n

-- the trades that a request completes are rows of what it places
pub completed_found : (r : List Listed) (s : State) (q : Request) → Each (Found (placed r s q).trades.rows) (completed r s q)
unfolding completed
completed_found r s q = one_found (placed r s q) (confirms_in s q)

-- ── Terms stay ──

-- a part of a row that a change keeps
pub part_changed : {Y : Type 0} (g : Trade → Y) (f : Trade → Trade) → ((t : Trade) → number (f t) ≡ number t) → ((t : Trade) → g (f t) ≡ g t)
    → (k n : ℕ) (ts : List Trade) → g (trade_in (changed number k f ts) n) ≡ g (trade_in ts n)
part_changed g f key same k n ts = seen_kept number f key no_trade g k ts n (λ x _. same x)

pub terms_changed : (f : Trade → Trade) → ((t : Trade) → (f t).terms ≡ t.terms) → (k n : ℕ) (ts : List Trade) → (trade_in (changed number k f ts) n).terms ≡ (trade_in ts n).terms
terms_changed f same k n ts = part_changed (λ t. t.terms) f (λ t. ap (λ e. e.number) (same t)) same k n ts

-- a request that may complete a chain changes no terms
pub placed_terms : (r : List Listed) (s : State) (q : Request) (m : ℕ) → confirms_in s q ≡ Some m → (n : ℕ) → (trade (placed r s q) n).terms ≡ (trade s n).terms
unfolding placed
placed_terms r s q m h n = go q m (confirmer s q m h)
  where
    go : (q : Request) (m : ℕ) → Confirmer s q m → (trade (placed r s q) n).terms ≡ (trade s n).terms
    go _ _ (including q now) = terms_changed _ (λ t. side_terms q.side _ t) q.trade n s.trades.rows
    go _ _ (one_side q) = terms_changed _ (λ t. side_terms q.side confirmed t) q.trade n s.trades.rows
    go _ _ (intermediating q now) = terms_changed _ (λ t. refl) q.intermediation.sold n _ ∙ terms_changed _ (λ t. refl) q.intermediation.bought n s.trades.rows
    go _ _ (two_sides q) = terms_changed (at_side Seller confirmed) (λ t. refl) (intermediation s q.id).sold n _ ∙ terms_changed (at_side Buyer confirmed) (λ t. refl) (intermediation s q.id).bought n s.trades.rows

-- nothing is completed where nothing is confirmed
pub completes_by : (r : List Listed) (s : State) (q : Request) → confirms_in s q ≡ None → completed r s q ≡ []
unfolding completed
completes_by r s q h = ap (chain_confirmed (placed r s q)) h

-- each trade of a completed chain has the terms that its number has in the plain book
pub completed_terms : (r : List Listed) (s : State) (q : Request) (p : Plain) → Agrees p s → Each (λ u. terms_in p (number u) ≡ u.terms) (completed r s q)
completed_terms r s q p a = go (confirms_in s q) refl
  where
    go : (o : Option ℕ) → confirms_in s q ≡ o → Each (λ u. terms_in p (number u) ≡ u.terms) (completed r s q)
    go None e = subst (Each (λ u. terms_in p (number u) ≡ u.terms)) (sym (completes_by r s q e)) tt
    go (Some m) e =
        each_map (Found (placed r s q).trades.rows) (λ u. terms_in p (number u) ≡ u.terms)
        (λ u f. terms_known p s a (number u) ∙ sym (placed_terms r s q m e (number u)) ∙ ap (λ o. (or_else no_trade o).terms) f)
        (completed r s q) (completed_found r s q)

pub kind_known : (b : Beginning) (h : History) (r : List Listed) (s : State) (q : Request) → Agrees (plain b.day h) s → KindKnown b h (completed r s q)
kind_known b h r s q a u us e =
    ap (λ t. is_selic t.kind) (subst (Each (λ v. terms_in (plain b.day h) (number v) ≡ v.terms)) e (completed_terms r s q (plain b.day h) a)).0
