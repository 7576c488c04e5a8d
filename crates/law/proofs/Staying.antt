-- A numbered chain stays as it is until the closing.
use Rattle.keyed.proofs.Words.{false, true, List, [], ◌∷◌, ⊎_elim, refl, subst, sym, ◌≡◌, ◌∙◌, ℕ, cases_Bool, Option, None, Some}
use Rattle.law.proofs.Subject.{Refusal, Each, Beginning, Call, History, Run, begun, ran, stepped, State, trade, outcome, step, verdict, closes}
use Rattle.keyed.proofs.Lists.{each_map}
use Rattle.law.proofs.Books.{Sound}
use Rattle.law.proofs.Every.{Held, frozen_on, held_begun, held_ran, held_step, olds_kept}
use Rattle.law.proofs.Froze.{Frozen, frozen_then, same_self, stays}
use Rattle.law.proofs.Fulls.{each_behind, full_num, others_are}
use Rattle.law.proofs.PairLaw.{Full}
use Rattle.law.proofs.Passed.{all_passed}
use Rattle.law.proofs.Shown.{view}
use Rattle.law.proofs.Steps.{OldPairs}
use Rattle.law.specs.Further.{AsItWas, HeldAsBefore, NumberedChainStays, Stays, Closes, NoneCloses}

-- what is numbered in s is so in t, with the pairs that it has
record Follows (s t : State) : Type 0 where
  frozen : Frozen s t
  olds : OldPairs s t

follows_self : (s : State) → Follows s s
follows_self s = record { frozen = record { parts = λ m h. same_self (trade s m); intermediations = λ w m h. refl }; olds = λ f os _. refl }

follows_then : (s t u : State) → Sound s → Sound t → Follows s t → Follows t u → Follows s u
follows_then s t u g k a b = record {
  frozen = frozen_then s t u a.frozen b.frozen;
  olds = λ f os full. b.olds f os (stays s t g k a.frozen f os full).0 ∙ a.olds f os full;
}

step_follows : (b : Beginning) (h : History) (s : State) (c : Call) → Held b h s → (Closes s c → ⊥) → Follows s (step c.register s c.asked).after
unfolding step
step_follows b h s c k on = go (verdict c.register s c.asked) refl
  where
    go : (x : Option Refusal) → verdict c.register s c.asked ≡ x → Follows s (outcome x c.register s c.asked).after
    go (Some x) e = follows_self s
    go None e =
        let pass = all_passed c.register s c.asked e in
        let not_closing : closes c.asked ≡ false = ⊎_elim (λ (z : closes c.asked ≡ true). absurd (on (z, e))) (λ (z : closes c.asked ≡ false). z) (cases_Bool (closes c.asked)) in
        record { frozen = frozen_on b h c.register s c.asked k pass not_closing; olds = olds_kept b h c.register s c.asked k pass not_closing }

ran_follows : (b : Beginning) (run : Run) (ds : List Call) → Held b run.history run.state → NoneCloses run ds → Follows run.state (ran run ds).state
unfolding ran
ran_follows b run [] k o = follows_self run.state
ran_follows b run (c ∷ ds) k o =
    let there = held_step b run.history run.state c k in
    follows_then run.state (stepped run c).state _ k.sound there.sound (step_follows b run.history run.state c k o.0) (ran_follows b (stepped run c) ds there o.1)

chain_stays : (s t : State) → Sound s → Sound t → Follows s t → (first : ℕ) (others : List ℕ) → Full s first others → Stays s t first others
chain_stays s t g k f first others full =
    let n = full_num s g first others full in
    let rest : Each (λ m. (view s).num m ≡ true) others = subst (Each (λ m. (view s).num m ≡ true)) (sym (others_are s g first others full.chain))
    (each_behind s g (λ m. (view s).num m ≡ true) first n.0 (λ m h z. g.seen.numbers.num_next m h z)) in
    let all : Each (λ m. (view s).num m ≡ true) (first ∷ others) = (n.0, rest) in
    record {
      chain = (stays s t g k f.frozen first others full).0.chain;
      trades = each_map (λ m. (view s).num m ≡ true) (λ m. AsItWas (trade s m) (trade t m))
          (λ m h. let p = f.frozen.parts m h in record { terms = p.terms; buyer = p.buyer; seller = p.seller; numbered = p.numbered h }) (first ∷ others) all;
      ties = each_map (λ m. (view s).num m ≡ true) (HeldAsBefore s t) (λ m h w. f.frozen.intermediations w m h) (first ∷ others) all;
      pairs = f.olds first others full;
    }

pub numbered_chain_stays : NumberedChainStays
numbered_chain_stays b cs ds on first others chain sure =
    let k = held_ran b (begun b) cs (held_begun b) in
    let l = held_ran b (ran (begun b) cs) ds k in
    chain_stays _ _ k.sound l.sound (ran_follows b (ran (begun b) cs) ds k on) first others (record { chain = chain; confirmed = sure })
