-- What every request keeps of the pairs that needs no chains: the rows, the answers, the numbers.
use Rattle.keyed.proofs.Words.{false, cond, true≢false, List, [], ◌∷◌, ◌++◌, ◌≡◌, refl, sym, ap, subst, ◌∙◌, ℕ, ◌≤◌, arith, length, take, drop, cond_both, Option, Some, None, Ok}
use Rattle.law.proofs.Subject.{Answer, Written, Marked, Intermediation, find, Listed, Closing, Request, Capture, Cancel, Include, Remove, Confirm, Intermediate, ConfirmIntermediation, ExcludeIntermediation, Close, is_selic, id, number, both_confirmed, Trade, matched, excluded, placed, called_off, excluded_by, marked, written, reply, completed, effect, numbering, with_numbers, chain_matches, by_selic, issuer, new_pairs, History, Beginning, Call, event, State, trade, at_trade, plain, terms_in, closes}
use Rattle.keyed.proofs.Lists.{each_map}
use Rattle.chains.proofs.Matches.{numbers_given, length_given, all_name}
use Rattle.law.proofs.Histories.{Counted, NamesNone, none_written, only_marked, wrote_new, wrote_nothing, closed}
use Rattle.law.proofs.Passed.{Passed}

-- ── Before anything is numbered, pairs and numbers are as they were ──

pub record Unnumbered (s t : State) : Type 0 where
  pub pairs : t.pairs ≡ s.pairs
  pub selic : t.selic ≡ s.selic
  pub control : t.control ≡ s.control

pub excluded_keeps : (n : ℕ) (s : State) → Unnumbered s (excluded n s)
unfolding excluded
excluded_keeps n s = go (find id n s.intermediations.rows)
  where
    go : (o : Option Intermediation) → Unnumbered s (excluded_by o n s)
    go None = record { pairs = refl; selic = refl; control = refl }
    go (Some x) = record { pairs = refl; selic = refl; control = refl }

both_excluded : (n m : ℕ) (s : State) → Unnumbered s (excluded n (excluded m s))
both_excluded n m s =
    let one = excluded_keeps m s in
    let two = excluded_keeps n (excluded m s) in
    record { pairs = two.pairs ∙ one.pairs; selic = two.selic ∙ one.selic; control = two.control ∙ one.control }

pub placed_keeps : (r : List Listed) (s : State) (q : Request) → closes q ≡ false → Unnumbered s (placed r s q)
unfolding placed
placed_keeps r s (Capture q) h = record { pairs = refl; selic = refl; control = refl }
placed_keeps r s (Cancel q) h =
    let u = both_excluded (trade s q.trade).seller.tie (trade s q.trade).buyer.tie s in
    cond_both (both_confirmed (trade s q.trade)) (at_trade q.trade marked s) (called_off q.trade (trade s q.trade) s) (Unnumbered s)
    (λ _. record { pairs = refl; selic = refl; control = refl }) (λ _. record { pairs = u.pairs; selic = u.selic; control = u.control })
placed_keeps r s (Include q) h = record { pairs = refl; selic = refl; control = refl }
placed_keeps r s (Remove q) h = record { pairs = refl; selic = refl; control = refl }
placed_keeps r s (Confirm q) h = record { pairs = refl; selic = refl; control = refl }
placed_keeps r s (Intermediate q) h = record { pairs = refl; selic = refl; control = refl }
placed_keeps r s (ConfirmIntermediation q) h = record { pairs = refl; selic = refl; control = refl }
placed_keeps r s (ExcludeIntermediation q) h = excluded_keeps q.id s
placed_keeps r s (Close q) h = absurd (true≢false h)

-- ── One event ──

-- the kind of the first trade, as captured
abbrev pub KindKnown : Beginning → History → List Trade → Type 0
KindKnown b h c = (u : Trade) (us : List Trade) → c ≡ u ∷ us → is_selic (terms_in (plain b.day h) (number u)).kind ≡ is_selic u.terms.kind

pub numbered_event : (b : Beginning) (h : History) (s t : State) (call : Call) (c : List Trade)
    → closes call.asked ≡ false → s.pairs.count ≡ length s.pairs.rows → Unnumbered s t
    → length (chain_matches c) ≤ length (issuer c s) → KindKnown b h c
    → Counted b h s → Counted b (event call (Ok (written (length (chain_matches c)) s.pairs.count)) (with_numbers c t) ∷ h) (with_numbers c t)
unfolding matched numbering
numbered_event b h s t call [] open_still count same enough kind kept =
    wrote_nothing b h s t call (Written 0 0) none_written open_still (ap (λ p. p.rows) same.pairs) same.selic same.control kept
numbered_event b h s t call (u ∷ us) open_still count same enough kind kept =
    let c : List Trade = u ∷ us in
    let n : ℕ = length (chain_matches c) in
    let left : issuer c t ≡ issuer c s = ap (λ l. cond (by_selic c) l t.control) same.selic ∙ ap (λ l. cond (by_selic c) s.selic l) same.control in
    let fits : n ≤ length (issuer c t) = omega (arith, enough, ap length left) in
    wrote_new b h s (with_numbers c t) call n (number u) (by_selic c) (new_pairs c t) open_still count
    (ap (λ p. p.rows ++ new_pairs c t) same.pairs)
    (length_given _ _ (chain_matches c) (issuer c t) fits)
    (kind u us refl)
    (each_map (λ p. (p.first ≡ number u) × (p.last ≡ _)) (λ p. p.first ≡ number u) (λ p e. e.0) (new_pairs c t) (all_name (number u) _ (chain_matches c) (issuer c t)))
    (numbers_given _ _ (chain_matches c) (issuer c t) fits ∙ ap (take n) left)
    (ap (λ l. cond (by_selic c) (drop n l) l) same.selic) (ap (λ l. cond (by_selic c) l (drop n l)) same.control) kept

-- ── Each request ──

abbrev pub call : Request → List Listed → Call
call q r = record { asked = q; register = r }

-- a request that completes no chain
plainly : (b : Beginning) (h : History) (r : List Listed) (s : State) (q : Request) (a : Answer) → NamesNone a → closes q ≡ false → completed r s q ≡ []
    → Counted b h s → Counted b (event (call q r) (Ok a) (with_numbers (completed r s q) (placed r s q)) ∷ h) (with_numbers (completed r s q) (placed r s q))
plainly b h r s q a names open_still none kept =
    let same = placed_keeps r s q open_still in
    subst (λ c. Counted b (event (call q r) (Ok a) (with_numbers c (placed r s q)) ∷ h) (with_numbers c (placed r s q))) (sym none)
    (wrote_nothing b h s (placed r s q) (call q r) a names open_still (ap (λ p. p.rows) same.pairs) same.selic same.control kept)

closing : (b : Beginning) (h : History) (r : List Listed) (s : State) (q : Closing)
    → Counted b h s → Counted b (event (call (Close q) r) (Ok (Written 0 0)) (with_numbers (completed r s (Close q)) (placed r s (Close q))) ∷ h) (with_numbers (completed r s (Close q)) (placed r s (Close q)))
unfolding completed placed
closing b h r s q kept = closed b h s (placed r s (Close q)) (call (Close q) r) refl refl refl refl kept

pub accepted_keeps : (b : Beginning) (h : History) (r : List Listed) (s : State) (q : Request)
    → Passed r s q → s.pairs.count ≡ length s.pairs.rows → KindKnown b h (completed r s q)
    → Counted b h s → Counted b (event (call q r) (Ok (reply r s q)) (effect r s q) ∷ h) (effect r s q)
unfolding effect completed
accepted_keeps b h r s (Capture q) e count kind kept = plainly b h r s (Capture q) (Written 0 0) none_written refl refl kept
accepted_keeps b h r s (Cancel q) e count kind kept =
    plainly b h r s (Cancel q) (cond (both_confirmed (trade s q.trade)) Marked (Written 0 0))
    (cond_both (both_confirmed (trade s q.trade)) Marked (Written 0 0) NamesNone (λ t. only_marked) (λ t. none_written)) refl refl kept
accepted_keeps b h r s (Include q) e count kind kept =
    numbered_event b h s (placed r s (Include q)) (call (Include q) r) (completed r s (Include q)) refl count (placed_keeps r s (Include q) refl) e.own.enough kind kept
accepted_keeps b h r s (Remove q) e count kind kept = plainly b h r s (Remove q) (Written 0 0) none_written refl refl kept
accepted_keeps b h r s (Confirm q) e count kind kept =
    numbered_event b h s (placed r s (Confirm q)) (call (Confirm q) r) (completed r s (Confirm q)) refl count (placed_keeps r s (Confirm q) refl) e.own.enough kind kept
accepted_keeps b h r s (Intermediate q) e count kind kept =
    numbered_event b h s (placed r s (Intermediate q)) (call (Intermediate q) r) (completed r s (Intermediate q)) refl count (placed_keeps r s (Intermediate q) refl) e.own.enough kind kept
accepted_keeps b h r s (ConfirmIntermediation q) e count kind kept =
    numbered_event b h s (placed r s (ConfirmIntermediation q)) (call (ConfirmIntermediation q) r) (completed r s (ConfirmIntermediation q)) refl count (placed_keeps r s (ConfirmIntermediation q) refl) e.own.enough kind kept
accepted_keeps b h r s (ExcludeIntermediation q) e count kind kept = plainly b h r s (ExcludeIntermediation q) (Written 0 0) none_written refl refl kept
accepted_keeps b h r s (Close q) e count kind kept = closing b h r s q kept
