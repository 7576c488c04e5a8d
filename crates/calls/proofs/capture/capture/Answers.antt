use Rattle.std.proofs.Common.{◌≡◌, ◌+◌, ◌-◌, ◌≤◌, List, drop, ap, sym, ◌∙◌, arith, ℕ}
use Rattle.std.proofs.lemmas.List.{drop-drop}
use Rattle.calls.proofs.capture.capture.Goals as goal

-- what is the same behind n is the same further behind
same_behind : {X : Type 0} (xs ys : List X) (m n : ℕ) → n ≤ m → drop n xs ≡ drop n ys → drop m xs ≡ drop m ys
same_behind xs ys m n l e =
    let over : n + (m - n) ≡ m = omega arith in
    ap (λ k. drop k xs) (sym over) ∙ sym (drop-drop (m - n) n xs) ∙ ap (drop (m - n)) e ∙ drop-drop (m - n) n ys ∙ ap (λ k. drop k ys) over

pub returns-clause-beyond : goal.returns-clause-beyond
returns-clause-beyond c = same_behind c.enter.new.rows c.args.trades.now 4096 _ (omega (arith, c.in_ok-capturable.ensures.1.1)) c.enter.ensures.beyond
