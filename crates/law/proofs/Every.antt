-- Every run is lawful.
use Rattle.keyed.proofs.Words.{true, false, cond, ◌&&◌, List, [], ◌∷◌, ◌⊎◌, inl, inr, ⊎_elim, ◌≡◌, refl, sym, ap, subst, ◌∙◌, ℕ, ◌≤◌, eqb, length, cases_Bool, Option, Some, None, Ok}
use Rattle.book.specs.Steps.{Outcome}
use Rattle.law.proofs.Accepts.{accepted, confirming}
use Rattle.law.proofs.Beginnings.{begun_agrees, begun_sides, begun_pairs}
use Rattle.law.proofs.Books.{Sound, ConfirmedHold}
use Rattle.law.proofs.ChainLaw.{chains}
use Rattle.law.proofs.ChainRows.{Found, completed_found, kind_known}
use Rattle.law.proofs.Completes.{Confirming, conf_line, conf_chain, conf_all}
use Rattle.law.proofs.Events.{placed_keeps, call, accepted_keeps}
use Rattle.law.proofs.Fair.{fair_from}
use Rattle.law.proofs.Froze.{Frozen, frozen_then}
use Rattle.law.proofs.Histories.{Counted, counted_of, refused_pairs}
use Rattle.law.proofs.Kept.{nothing_sound}
use Rattle.law.proofs.PairLaw.{pairs_cleared}
use Rattle.law.proofs.Passed.{Passed, all_passed}
use Rattle.law.proofs.Placed.{placed_leaves, open_before, Leaves}
use Rattle.law.proofs.Quantities.{placed_sound}
use Rattle.law.proofs.Shown.{view}
use Rattle.law.proofs.SidesKept.{Kept, placed_fair, accepted as kept_accepted, refused as kept_refused}
use Rattle.law.proofs.Steps.{ends_hold, enough, unchanged, written, OldPairs, old_pairs, with_numbers_frozen}
use Rattle.law.proofs.Subject.{Refusal, those, Each, Listed, Request, Capture, Cancel, Include, Remove, Confirm, Intermediate, ConfirmIntermediation, ExcludeIntermediation, Close, Trade, placed, reply, if_all_confirmed, chain_confirmed, completed, chain_matches, issuer, with_numbers, confirms_in, effect, History, Beginning, Call, event, rows_named, Run, stepped, ran, begun, State, outcome, step, verdict, Sides, Pairs, final, closes, plain, last_filling}
use Rattle.law.proofs.Views.{whole_chain}
use Rattle.law.specs.Law.{EveryRunLawful, BeginningLawful}

-- what a run keeps
pub record Held (b : Beginning) (h : History) (s : State) : Type 0 where
  pub sound : Sound s
  pub kept : Kept b.day h s
  pub pairs : Pairs b h s

module _ (b : Beginning) (h : History) (r : List Listed) (s : State) (q : Request) (k : Held b h s) (pass : Passed r s q) where
  hold : ConfirmedHold r s q
  hold m c = ends_hold (placed r s q) (placed_sound r s q m pass c)
      (placed_fair (plain b.day h) (λ w n. last_filling b.day w n h) r s (fair_from b.day h s k.kept.agrees k.kept.sides) (chains s k.sound) q pass).adds

  pub sound_after : Sound (effect r s q)
  sound_after = accepted s k.sound r q pass hold

  abbrev now : History
  now = event (call q r) (Ok (reply r s q)) (effect r s q) ∷ h

  kept_after : Kept b.day now (effect r s q)
  kept_after = kept_accepted b.day h r s q (rows_named (Ok (reply r s q)) (effect r s q).pairs.rows) (chains s k.sound) k.kept pass

  counted_after : Counted b now (effect r s q)
  counted_after = accepted_keeps b h r s q pass k.kept.agrees.pair_count (kind_known b h r s q k.kept.agrees) (counted_of b h s k.pairs)

  -- the chain that was completed, if one was
  pub record Completing : Type 0 where
    pub at : ℕ
    pub conf : Confirming (placed r s q) at
    pub by : confirms_in s q ≡ Some at
    pub sure : whole_chain (view (placed r s q)) at ≡ true
    pub is : completed r s q ≡ conf_line (placed r s q) at conf

  pub completes : (completed r s q ≡ []) ⊎ Completing
  unfolding completed
  completes = go (confirms_in s q) refl
    where
      go : (o : Option ℕ) → confirms_in s q ≡ o → (completed r s q ≡ []) ⊎ Completing
      go None o = inl (ap (chain_confirmed (placed r s q)) o)
      go (Some n) o =
          let conf : Confirming (placed r s q) n = confirming s k.sound r q pass n o in
          let is_cond : completed r s q ≡ cond (whole_chain (view (placed r s q)) n) (conf_line (placed r s q) n conf) [] =
          ap (chain_confirmed (placed r s q)) o ∙ ap if_all_confirmed (conf_chain (placed r s q) n conf) ∙ ap (λ z. cond z (conf_line (placed r s q) n conf) []) (conf_all (placed r s q) n conf) in
          ⊎_elim (λ (w : whole_chain (view (placed r s q)) n ≡ true). inr (record { at = n; conf = conf; by = o; sure = w; is = is_cond ∙ ap (λ z. cond z (conf_line (placed r s q) n conf) []) w }))
          (λ (w : whole_chain (view (placed r s q)) n ≡ false). inl (is_cond ∙ ap (λ z. cond z (conf_line (placed r s q) n conf) []) w))
          (cases_Bool (whole_chain (view (placed r s q)) n))

  -- what is shown for the chain that was completed
  pub by_chain : (P : State → Type 0) (c : List Trade) → completed r s q ≡ c → P (with_numbers c (placed r s q)) → P (effect r s q)
  unfolding effect
  by_chain P c d p = subst (λ x. P (with_numbers x (placed r s q))) (sym d) p

  pub for_chain : (P : State → Type 0) (c : List Trade) → completed r s q ≡ c → P (effect r s q) → P (with_numbers c (placed r s q))
  unfolding effect
  for_chain P c d p = subst (λ x. P (with_numbers x (placed r s q))) d p

  module _ (c : closes q ≡ false) where
    left_alone : Leaves s (placed r s q)
    left_alone = placed_leaves s k.sound r q c pass

    -- the pairs after a chain was completed, and those of the chains of before
    module _ (m : Completing) where
      chain_found : Each (Found (placed r s q).trades.rows) (conf_line (placed r s q) m.at m.conf)
      chain_found = subst (Each (Found (placed r s q).trades.rows)) m.is (completed_found r s q)

      chain_enough : length (chain_matches (conf_line (placed r s q) m.at m.conf)) ≤ length (issuer (conf_line (placed r s q) m.at m.conf) s)
      chain_enough = subst (λ x. length (chain_matches x) ≤ length (issuer x s)) m.is (enough r s q pass m.at m.by)

      pub pairs_completed : Pairs b now (effect r s q)
      pairs_completed = by_chain (Pairs b now) (conf_line (placed r s q) m.at m.conf) m.is
          (written b h s k.sound k.pairs (placed r s q) left_alone (placed_keeps r s q c) m.at m.conf (open_before s k.sound r q pass m.at m.by) m.sure
          chain_found chain_enough (placed_sound r s q m.at pass m.by) now
          (for_chain Sound _ m.is sound_after) (for_chain (Counted b now) _ m.is counted_after) (for_chain (Sides b.day now) _ m.is kept_after.sides))

      pub olds_completed : OldPairs s (effect r s q)
      olds_completed = by_chain (OldPairs s) (conf_line (placed r s q) m.at m.conf) m.is
          (old_pairs b h s k.sound k.pairs (placed r s q) left_alone (placed_keeps r s q c) m.at m.conf (open_before s k.sound r q pass m.at m.by) m.sure
          chain_found chain_enough (placed_sound r s q m.at pass m.by) now (for_chain Sound _ m.is sound_after))

    pub still_open : Pairs b now (effect r s q)
    still_open = ⊎_elim (λ (d : completed r s q ≡ []).
        by_chain (Pairs b now) [] d (unchanged b h s k.sound k.pairs (placed r s q) left_alone (placed_keeps r s q c) now
        (for_chain Sound [] d sound_after) (for_chain (Counted b now) [] d counted_after)))
        pairs_completed completes

    -- what was numbered is as it was, and has the pairs that it had
    pub frozen_on : Frozen s (effect r s q)
    unfolding effect
    frozen_on = frozen_then s (placed r s q) _ left_alone.frozen (with_numbers_frozen (completed r s q) (placed r s q))

    pub olds_kept : OldPairs s (effect r s q)
    olds_kept = ⊎_elim (λ (d : completed r s q ≡ []).
        by_chain (OldPairs s) [] d (λ f os _. ap (those (λ p. eqb p.first f && eqb p.last (final f os))) (ap (λ t. t.rows) (placed_keeps r s q c).pairs)))
        olds_completed completes

pairs_after : (b : Beginning) (h : History) (r : List Listed) (s : State) (q : Request) (k : Held b h s) (e : Passed r s q)
    → Pairs b (event (call q r) (Ok (reply r s q)) (effect r s q) ∷ h) (effect r s q)
unfolding effect placed completed
pairs_after b h r s (Capture q) k e = still_open b h r s (Capture q) k e refl
pairs_after b h r s (Cancel q) k e = still_open b h r s (Cancel q) k e refl
pairs_after b h r s (Include q) k e = still_open b h r s (Include q) k e refl
pairs_after b h r s (Remove q) k e = still_open b h r s (Remove q) k e refl
pairs_after b h r s (Confirm q) k e = still_open b h r s (Confirm q) k e refl
pairs_after b h r s (Intermediate q) k e = still_open b h r s (Intermediate q) k e refl
pairs_after b h r s (ConfirmIntermediation q) k e = still_open b h r s (ConfirmIntermediation q) k e refl
pairs_after b h r s (ExcludeIntermediation q) k e = still_open b h r s (ExcludeIntermediation q) k e refl
pairs_after b h r s (Close q) k e = pairs_cleared b _ (effect r s (Close q)) refl refl (counted_after b h r s (Close q) k e)

-- one request
pub held_step : (b : Beginning) (h : History) (s : State) (c : Call) → Held b h s
    → (let o : Outcome = step c.register s c.asked in Held b (event c o.answer o.after ∷ h) o.after)
unfolding step
held_step b h s c k = go (verdict c.register s c.asked) refl
  where
    go : (x : Option Refusal) → verdict c.register s c.asked ≡ x
        → Held b (event c (outcome x c.register s c.asked).answer (outcome x c.register s c.asked).after ∷ h) (outcome x c.register s c.asked).after
    go (Some x) e = record { sound = k.sound; kept = kept_refused b.day h c.register s c.asked x [] k.kept; pairs = refused_pairs b h s c x k.pairs }
    go None e = record {
      sound = sound_after b h c.register s c.asked k (all_passed c.register s c.asked e);
      kept = kept_after b h c.register s c.asked k (all_passed c.register s c.asked e);
      pairs = pairs_after b h c.register s c.asked k (all_passed c.register s c.asked e);
    }

pub held_ran : (b : Beginning) (run : Run) (cs : List Call) → Held b run.history run.state → Held b (ran run cs).history (ran run cs).state
unfolding ran
held_ran b run [] k = k
held_ran b run (c ∷ cs) k = held_ran b (stepped run c) cs (held_step b run.history run.state c k)

pub held_begun : (b : Beginning) → Held b [] (begun b).state
held_begun b = record {
  sound = record { seen = nothing_sound; trade_keys = refl; intermediation_keys = refl };
  kept = record { agrees = begun_agrees b; sides = begun_sides b };
  pairs = begun_pairs b;
}

pub every_run_lawful : EveryRunLawful
every_run_lawful b cs =
    let k = held_ran b (begun b) cs (held_begun b) in
    record { agrees = k.kept.agrees; sides = k.kept.sides; chains = chains (ran (begun b) cs).state k.sound; pairs = k.pairs }

pub beginning_lawful : BeginningLawful
unfolding ran
beginning_lawful b = every_run_lawful b []
