-- Every request keeps the agreement with the plain book and the law of the sides.
use Rattle.keyed.proofs.Words.{true, List, ◌∷◌, ◌≡◌, sym, ℕ, arith, Option, None, Ok, Err}
use Rattle.law.proofs.Subject.{Refusal, Pair, Side, find, rises_above, Listed, Request, Capture, Cancel, Include, Remove, Confirm, Intermediate, ConfirmIntermediation, ExcludeIntermediation, Close, id, number, placed, reply, effect, completed, Event, History, State, Agrees, Sides, Chains, Plain, plain, fed, Filling, last_filling}
use Rattle.keyed.proofs.Keys.{below_absent}
use Rattle.law.proofs.Fair.{Fair, last_is, fair_sides, fair_from, numbering_fair}
use Rattle.law.proofs.Legs.{fair_o}
use Rattle.law.proofs.OneTrade.{next, capture_fair, include_fair, remove_fair, confirm_fair, close_fair}
use Rattle.law.proofs.Passed.{Own, Passed}
use Rattle.law.proofs.TwoLegs.{confirm_both_fair, exclude_fair, cancel_fair, intermediate_fair}

-- ── What 4 says ──

-- ── An accepted request ──

pub placed_fair : (p : Plain) (o : Side → ℕ → Option Filling) (r : List Listed) (s : State) → Fair p o s → Chains s → (q : Request) → Passed r s q
    → Fair (fed p q (reply r s q)) (next p o r q (reply r s q)) (placed r s q)
placed_fair p o r s f c q t = go q t.own
  where
    zero : find number 0 s.trades.rows ≡ None
    zero = below_absent number 0 0 s.trades.rows t.tables.numbers_rise (omega arith)

    ids : rises_above id 0 s.intermediations.rows ≡ true
    ids = t.tables.ids_rise

    go : (q : Request) → Own r s q → Fair (fed p q (reply r s q)) (next p o r q (reply r s q)) (placed r s q)
    go (Capture q) t = capture_fair p o r s f q (reply r s (Capture q)) t
    go (Cancel q) t = cancel_fair p o r s f zero ids c q t
    go (Include q) t = include_fair p o r s f q (reply r s (Include q)) t
    go (Remove q) t = remove_fair p o r s f q (reply r s (Remove q))
    go (Confirm q) t = confirm_fair p o r s f q (reply r s (Confirm q)) t
    go (Intermediate q) t = intermediate_fair p o r s f zero q (reply r s (Intermediate q)) t
    go (ConfirmIntermediation q) t = confirm_both_fair p o r s f zero q (reply r s (ConfirmIntermediation q)) t
    go (ExcludeIntermediation q) t = exclude_fair p o r s f zero ids q (reply r s (ExcludeIntermediation q))
    go (Close q) t = close_fair p o r s f q (reply r s (Close q))

pub effect_fair : (p : Plain) (o : Side → ℕ → Option Filling) (r : List Listed) (s : State) → Fair p o s → Chains s → (q : Request) → Passed r s q
    → Fair (fed p q (reply r s q)) (next p o r q (reply r s q)) (effect r s q)
unfolding effect
effect_fair p o r s f c q t = numbering_fair (fed p q (reply r s q)) (next p o r q (reply r s q)) (completed r s q) (placed r s q) (placed_fair p o r s f c q t)

-- what a request keeps
pub record Kept (day : ℕ) (h : History) (s : State) : Type 0 where
  pub agrees : Agrees (plain day h) s
  pub sides : Sides day h s

pub accepted : (day : ℕ) (h : History) (r : List Listed) (s : State) (q : Request) (ps : List Pair) → Chains s → Kept day h s → Passed r s q
    → Kept day (record { asked = q; register = r; answered = Ok (reply r s q); wrote = ps } ∷ h) (effect r s q)
unfolding plain
accepted day h r s q ps c k t =
    let f = effect_fair (plain day h) (λ w n. last_filling day w n h) r s (fair_from day h s k.agrees k.sides) c q t in
    let e : Event = record { asked = q; register = r; answered = Ok (reply r s q); wrote = ps } in
    let g = fair_o (fed (plain day h) q (reply r s q)) (next (plain day h) (λ w n. last_filling day w n h) r q (reply r s q)) (λ w n. last_filling day w n (e ∷ h)) (effect r s q)
    (λ w n. sym (last_is day w n q r (reply r s q) ps h)) f in
    record { agrees = f.agrees; sides = fair_sides day (e ∷ h) (effect r s q) (fed (plain day h) q (reply r s q)) g }

pub refused : (day : ℕ) (h : History) (r : List Listed) (s : State) (q : Request) (x : Refusal) (ps : List Pair) → Kept day h s
    → Kept day (record { asked = q; register = r; answered = Err x; wrote = ps } ∷ h) s
unfolding plain last_filling
refused day h r s q x ps k = record { agrees = k.agrees; sides = record { holds = k.sides.holds; entitled = k.sides.entitled; adds_up = k.sides.adds_up } }
