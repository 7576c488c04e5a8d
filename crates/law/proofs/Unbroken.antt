-- In a run from an empty book no chain is broken, and none of up to three trades is too long.
use Rattle.keyed.proofs.Words.{false, not, true, ◌&&◌, ◌||◌, List, [], map, ◌∷◌, ⊎_elim, inl, inr, ap, refl, subst, sym, ◌≡◌, ◌∙◌, ℕ, ◌+◌, ◌≤◌, arith, eqb, length, both_ways, cases_eq, eq-eqb, ne_eqb, and_from, Option, None, Some, Err}
use Rattle.law.proofs.Subject.{number_of, Refusal, Intermediation, Side, Buyer, Seller, any, is_some, Each, In, find, Listed, NewIntermediation, Request, Cancel, Capture, Close, Confirm, ConfirmIntermediation, ExcludeIntermediation, Include, Intermediate, Remove, held, any_leg, both_legs, has_leg, id, leg, each_leg, allocation, number, alike, is_cancelled, trade_in, Trade, chain, tie_in, entries_of, kept_entry, apart_in, numbers_in, short_in, begun, State, intermediation, trade, outcome, step, intermediation_verdict, leg_verdict, legs_verdict, on_side_verdict, own_verdict, trade_verdict, two_legs_verdict, verdict, Chain}
use Rattle.std.proofs.lemmas.Bool.{le-leb}
use Rattle.fields.specs.declared.ground.Ground.{Ground}
use Rattle.keyed.proofs.Lists.{each_in}
use Rattle.rows.specs.Hours.{in_time}
use Rattle.rows.specs.Legs.{leg_holds, legs_hold}
use Rattle.chains.proofs.Ties.{first_is}
use Rattle.chains.proofs.Walk.{Not0}
use Rattle.chains.proofs.Walks.{far_next}
use Rattle.law.proofs.Books.{Sound, any_leg_is, halves_of, numbers_are, there_of, walk_in, legged}
use Rattle.law.proofs.ChainLaw.{next_link}
use Rattle.law.proofs.Chained.{chain_is, intermediation_id, tie_at}
use Rattle.law.proofs.Confirms.{leg_left, leg_right}
use Rattle.law.proofs.Every.{held_begun, held_ran}
use Rattle.law.proofs.Fulls.{behind, each_behind, others_are}
use Rattle.law.proofs.Passed.{Tables, tables_passed}
use Rattle.law.proofs.Refusals.{asked, calm_capture_verdict, calm_closing_verdict, calm_completed, calm_empty_verdict, calm_entries, calm_fields, calm_id_verdict, calm_inclusion_verdict, calm_intermediary_verdict, calm_opposites, calm_outside_verdict, calm_side_verdict, calm_sides_verdict, calm_tables_verdict, calm_ties, calm_unnumbered_verdict, legs, not_on, turns, turns_if, Off, none_off, tested}
use Rattle.law.proofs.Shown.{view}
use Rattle.law.proofs.Views.{next, prev, first as first_in}
use Rattle.law.specs.Further.{ChainOf, Never, NeverBroken, NeverTooLong}
use Rattle.fields.specs.declared.ground.Ground.TheVariants as ground

-- ── 9 ──

two_legs_unbroken : (ts : List Trade) (xs : List Intermediation) (n m : ℕ) → Off 9 (two_legs_verdict ts xs n m)
unfolding two_legs_verdict
two_legs_unbroken ts xs n m =
    tested 9 (alike (trade_in ts n).terms (trade_in ts m).terms) _ _ (λ _. tested 9 (apart_in ts xs n m && short_in ts xs n m) _ _ (λ _. none_off 9) (λ _. refl)) (λ _. refl)

module _ (s : State) (g : Sound s) where
  here_not0 : (n : ℕ) → is_some (find number n s.trades.rows) ≡ true → Not0 n
  here_not0 n h e = both_ways _ g.seen.none (ap (λ k. is_some (find number k s.trades.rows)) (sym e) ∙ h)

  chain_whole : (n : ℕ) → is_some (find number n s.trades.rows) ≡ true → is_some (chain (tie_in s.trades.rows) s.intermediations.rows n) ≡ true
  chain_whole n h = ap is_some (chain_is s.trades.rows s.intermediations.rows (halves_of s g) (there_of s g) (walk_in s g) n h (here_not0 n h))

  trade_unbroken : (place minute n : ℕ) → Off 9 (trade_verdict place s.day minute s.trades.rows s.intermediations.rows n)
  unfolding trade_verdict
  trade_unbroken place minute n =
      tested 9 (is_some (find number n s.trades.rows)) _ _ (λ h. tested 9 (not (is_cancelled (trade s n).state)) _ _
      (λ _. tested 9 (is_some (chain (tie_in s.trades.rows) s.intermediations.rows n)) _ _ (λ _. tested 9 (in_time s.day minute (trade s n).terms) _ _ (λ _. none_off 9) (λ _. refl))
      (λ z. absurd (both_ways _ z (chain_whole n h)))) (λ _. refl)) (λ _. refl)

  side_unbroken : (minute caller n : ℕ) (w : Side) → Off 9 (on_side_verdict s.day minute caller s.trades.rows s.intermediations.rows n w)
  unfolding on_side_verdict
  side_unbroken minute caller n w = turns (trade_unbroken 0 minute n) (calm_side_verdict 0 caller w (trade s n)).0

  legs_unbroken : (minute : ℕ) (x : Intermediation) → Off 9 (legs_verdict s.day minute s.trades.rows s.intermediations.rows x)
  unfolding legs_verdict leg_verdict
  legs_unbroken minute x = legs 9 x (leg_verdict s.day minute s.trades.rows s.intermediations.rows x)
      (λ place w. turns (trade_unbroken place minute (leg w x)) (calm_side_verdict place x.participant w (trade s (leg w x))).0)

  leg_held : (i : ℕ) → is_some (find id i s.intermediations.rows) ≡ true → (w : Side) → (not (has_leg w (intermediation s i)) || leg_holds s.trades.rows (intermediation s i) w) ≡ true
  leg_held i h w =
      ⊎_elim (λ (z : leg w (intermediation s i) ≡ 0). rw (eq-eqb _ _ z) refl)
      (λ (z : Not0 (leg w (intermediation s i))).
      rw (ne_eqb _ _ z) (and_from _ _ (there_of s g w i z) (eq-eqb _ _ ((halves_of s g w).forth i z ∙ sym (intermediation_id s.intermediations.rows i h)))))
      (cases_eq (leg w (intermediation s i)) 0)

  any_there : (i : ℕ) → Tables s → is_some (find id i s.intermediations.rows) ≡ true → is_some (find number (any_leg (intermediation s i)) s.trades.rows) ≡ true
  any_there i t h =
      let x = intermediation s i in
      let n_is = legged s g i t h in
      ⊎_elim (λ (e : x.bought ≡ 0).
      let d : x.sold ≡ any_leg x = sym (leg_right x.bought x.sold e) ∙ any_leg_is x in
      subst (λ k. is_some (find number k s.trades.rows) ≡ true) d (there_of s g Seller i (λ y. n_is (sym d ∙ y))))
      (λ (e : Not0 x.bought). subst (λ k. is_some (find number k s.trades.rows) ≡ true) (sym (leg_left x.bought x.sold e) ∙ any_leg_is x) (there_of s g Buyer i e))
      (cases_eq x.bought 0)

  intermediation_unbroken : (minute caller i : ℕ) → Tables s → Off 9 (intermediation_verdict s.day minute caller s.trades.rows s.intermediations.rows i)
  unfolding intermediation_verdict
  intermediation_unbroken minute caller i t =
      let x = intermediation s i in
      tested 9 (is_some (find id i s.intermediations.rows)) _ _ (λ h. tested 9 (eqb x.participant caller) _ _
      (λ _. tested 9 (legs_hold s.trades.rows x && is_some (chain (tie_in s.trades.rows) s.intermediations.rows (any_leg x))) _ _
      (λ _. tested 9 (each_leg (λ w. in_time s.day minute (trade s (leg w x)).terms) x) _ _ (λ _. none_off 9) (λ _. refl))
      (λ z. absurd (both_ways _ z (and_from _ _ (and_from _ _ (leg_held i h Buyer) (leg_held i h Seller)) (chain_whole (any_leg (intermediation s i)) (any_there i t h)))))) (λ _. refl)) (λ _. refl)

  own_unbroken : (r : List Listed) (q : Request) → Tables s → Off 9 (own_verdict r s q)
  unfolding own_verdict
  own_unbroken r (Capture q) t = (calm_capture_verdict s.day q.minute s.trades q.terms).0
  own_unbroken r (Cancel q) t = trade_unbroken 0 q.minute q.trade
  own_unbroken r (Include q) t =
      turns (side_unbroken q.minute q.participant q.trade q.side)
      (turns (calm_entries r s.day q.participant q.side (trade s q.trade) 1 (entries_of q)).0
      (turns (calm_inclusion_verdict q.now (trade s q.trade).terms.quantity (entries_of q) (map (kept_entry r) (entries_of q))).0 (calm_completed r s (Include q)).0))
  own_unbroken r (Remove q) t = turns (side_unbroken q.minute q.participant q.trade q.side) (calm_empty_verdict (allocation q.side (trade s q.trade)).state).0
  own_unbroken r (Confirm q) t =
      turns (side_unbroken q.minute q.participant q.trade q.side)
      (turns (calm_empty_verdict (allocation q.side (trade s q.trade)).state).0
      (turns (calm_outside_verdict (held (allocation q.side (trade s q.trade)))).0 (calm_completed r s (Confirm q)).0))
  own_unbroken r (Intermediate q) t =
      turns (calm_id_verdict s.intermediations q.intermediation.id).0
      (turns (legs_unbroken q.minute q.intermediation)
      (turns (asked 9 (both_legs q.intermediation) _ (λ _. two_legs_unbroken s.trades.rows s.intermediations.rows q.intermediation.bought q.intermediation.sold))
      (turns (calm_intermediary_verdict r s.day (trade s (any_leg q.intermediation)).terms.kind q.intermediation.account).0
      (turns (calm_ties r s.trades.rows q.intermediation).0
      (turns (calm_opposites s.trades.rows q.intermediation).0 (calm_completed r s (Intermediate q)).0)))))
  own_unbroken r (ConfirmIntermediation q) t =
      turns (intermediation_unbroken q.minute q.participant q.id t)
      (turns (calm_sides_verdict s.trades.rows (intermediation s q.id)).0 (calm_completed r s (ConfirmIntermediation q)).0)
  own_unbroken r (ExcludeIntermediation q) t =
      turns (intermediation_unbroken q.minute q.participant q.id t) (calm_unnumbered_verdict s.trades.rows s.intermediations.rows (any_leg (intermediation s q.id))).0
  own_unbroken r (Close q) t = (calm_closing_verdict s.day q).0

  unbroken : (r : List Listed) (q : Request) → Off 9 (verdict r s q)
  unfolding verdict
  unbroken r q =
      turns (calm_fields q).0
      (turns_if (calm_tables_verdict s.trades s.intermediations s.pairs).0 (λ e. own_unbroken r q (tables_passed s e)))

-- ── 30 ──

module _ (s : State) (g : Sound s) where
  -- the trades of a chain have its first trade for their first
  in_chain : (first : ℕ) (others : List ℕ) → Chain s first others → (n : ℕ) → In n (first ∷ others) → (is_some (find number n s.trades.rows) ≡ true) × (first_in (view s) n ≡ first)
  in_chain first others c n i = each_in (λ m. (is_some (find number m s.trades.rows) ≡ true) × (first_in (view s) m ≡ first)) n (first ∷ others) (
    start,
    subst (Each (λ m. (is_some (find number m s.trades.rows) ≡ true) × (first_in (view s) m ≡ first))) (sym (others_are s g first others c))
        (each_behind s g (λ m. (is_some (find number m s.trades.rows) ≡ true) × (first_in (view s) m ≡ first)) first start
        (λ m p z. (there_of s g Seller (tie_at s.trades.rows Buyer m) z, far_next (next (view s)) (prev (view s)) (walk_in s g) m z ∙ p.1))),
  ) i
    where
      z : Not0 first
      z = here_not0 s g first c.stands

      none : prev (view s) first ≡ 0
      none = ⊎_elim (λ (e : prev (view s) first ≡ 0). e)
          (λ (e : Not0 (prev (view s) first)). absurd (c.none_before (prev (view s) first) (next_link s g (prev (view s) first) first e z ((walk_in s g).back first e))))
          (cases_eq (prev (view s) first) 0)

      start : (is_some (find number first s.trades.rows) ≡ true) × (first_in (view s) first ≡ first)
      start = (c.stands, first_is (next (view s)) (prev (view s)) (walk_in s g) first none)

  -- the chain that is followed is the chain
  numbers_of : (n : ℕ) (x : ChainOf s n) → numbers_in s.trades.rows s.intermediations.rows n ≡ x.first ∷ x.others
  numbers_of n x =
      let p = in_chain x.first x.others x.chain n x.member in
      numbers_are s g n p.0 (here_not0 s g n p.0) ∙ ap (λ f. f ∷ behind (next (view s)) f) p.1
      ∙ ap (λ os. x.first ∷ os) (sym (others_are s g x.first x.others x.chain))

  not_among : (n : ℕ) (ns : List ℕ) → (In n ns → ⊥) → any (λ m. eqb m n) ns ≡ false
  not_among n [] h = refl
  not_among n (m ∷ ns) h = rw (ne_eqb m n (λ e. h (inl (sym e)))) (not_among n ns (λ i. h (inr i)))

  short_enough : (ts : List Trade) (xs : List Intermediation) (n m : ℕ) → (apart_in ts xs n m && short_in ts xs n m) ≡ true → Off 30 (two_legs_verdict ts xs n m)
  unfolding two_legs_verdict
  short_enough ts xs n m h =
      tested 30 (alike (trade_in ts n).terms (trade_in ts m).terms) _ _ (λ _. tested 30 (apart_in ts xs n m && short_in ts xs n m) _ _ (λ _. none_off 30) (λ z. absurd (both_ways _ z h))) (λ _. refl)

  leg_length : (day minute : ℕ) (x : Intermediation) (place : ℕ) (w : Side) → Off 30 (leg_verdict day minute s.trades.rows s.intermediations.rows x place w)
  unfolding leg_verdict trade_verdict
  leg_length day minute x place w = turns
      (tested 30 (is_some (find number (leg w x) s.trades.rows)) _ _ (λ _. tested 30 (not (is_cancelled (trade s (leg w x)).state)) _ _
      (λ _. tested 30 (is_some (chain (tie_in s.trades.rows) s.intermediations.rows (leg w x))) _ _ (λ _. tested 30 (in_time day minute (trade s (leg w x)).terms) _ _ (λ _. none_off 30) (λ _. refl))
      (λ _. refl)) (λ _. refl)) (λ _. refl))
      (calm_side_verdict place x.participant w (trade s (leg w x))).1

  fits : (r : List Listed) (q : NewIntermediation) (x : ChainOf s q.intermediation.bought) (y : ChainOf s q.intermediation.sold)
      → (In q.intermediation.sold (x.first ∷ x.others) → ⊥) → length (x.first ∷ x.others) + length (y.first ∷ y.others) ≤ 3 → Off 30 (verdict r s (Intermediate q))
  unfolding verdict own_verdict legs_verdict
  fits r q x y apart short =
      let ok : (apart_in s.trades.rows s.intermediations.rows q.intermediation.bought q.intermediation.sold && short_in s.trades.rows s.intermediations.rows q.intermediation.bought q.intermediation.sold) ≡ true =
      rw (numbers_of q.intermediation.bought x, numbers_of q.intermediation.sold y) (and_from _ _ (ap not (not_among q.intermediation.sold (x.first ∷ x.others) apart)) (le-leb _ _ short)) in
      turns (calm_fields (Intermediate q)).1
      (turns (calm_tables_verdict s.trades s.intermediations s.pairs).1
      (turns (calm_id_verdict s.intermediations q.intermediation.id).1
      (turns (legs 30 q.intermediation (leg_verdict s.day q.minute s.trades.rows s.intermediations.rows q.intermediation) (leg_length s.day q.minute q.intermediation))
      (turns (asked 30 (both_legs q.intermediation) _ (λ _. short_enough s.trades.rows s.intermediations.rows q.intermediation.bought q.intermediation.sold ok))
      (turns (calm_intermediary_verdict r s.day (trade s (any_leg q.intermediation)).terms.kind q.intermediation.account).1
      (turns (calm_ties r s.trades.rows q.intermediation).1
      (turns (calm_opposites s.trades.rows q.intermediation).1 (calm_completed r s (Intermediate q)).1)))))))

-- ── Every run ──

never : (g : Ground) (r : List Listed) (s : State) (q : Request) → Off (number_of g) (verdict r s q) → Never g r s q
unfolding step
never g r s q h place e = go (verdict r s q) refl e
  where
    go : (o : Option Refusal) → verdict r s q ≡ o → (outcome o r s q).answer ≡ Err (record { ground = g; place = place }) → ⊥
    go None d e = let z : ◌≡◌ {A = ℕ} 0 1 = cc in absurd (omega arith)
    go (Some f) d e = let same : f ≡ record { ground = g; place = place } = cc in not_on (number_of g) (verdict r s q) f h d (ap (λ (x : Refusal). number_of x.ground) same)

pub never_broken : NeverBroken
never_broken b cs r q = never ground.BrokenChain r _ q (unbroken _ (held_ran b (begun b) cs (held_begun b)).sound r q)

pub never_too_long : NeverTooLong
never_too_long b cs r q x y apart short = never ground.ChainTooLong r _ (Intermediate q) (fits _ (held_ran b (begun b) cs (held_begun b)).sound r q x y apart short)
