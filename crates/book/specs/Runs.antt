-- Runs: a list of requests, each with what its register meant, and the history that they leave.
use Rattle.std.specs.Prelude.{ℕ, ◌-◌, List, [], ◌∷◌, take, drop, Ok, Err, Result}
use Rattle.fields.specs.declared.answer.Answer.{Answer}
use Rattle.fields.specs.declared.answer.Answer.TheVariants.{Marked, Written}
use Rattle.fields.specs.declared.answer.Refusal.{Refusal}
use Rattle.fields.specs.declared.trade.Pair.{Pair}
use Rattle.register.specs.Meaning.{Listed}
use Rattle.requests.specs.declared.request.Request.{Request}
use Rattle.book.specs.State.{State}
use Rattle.book.specs.Steps.{Outcome, step}

-- one request of a run: what was asked, what its register meant, what was answered, and the pair rows that the answer names
pub record Event : Type 0 where
  pub asked : Request
  pub register : List Listed
  pub answered : Result Answer Refusal
  pub wrote : List Pair

-- what happened in a run, the newest first
abbrev pub History : Type 0
History = List Event

-- where a run begins: the day, how many rows the lent tables have, and what the issuers have
pub record Beginning : Type 0 where
  pub day : ℕ
  pub trade_rows : ℕ
  pub intermediation_rows : ℕ
  pub pair_rows : ℕ
  pub selic : List ℕ
  pub control : List ℕ

-- the pair rows that an answer names
abbrev pub rows_named : Result Answer Refusal → List Pair → List Pair
rows_named (Err f) ps = []
rows_named (Ok Marked) ps = []
rows_named (Ok (Written n first)) ps = take n (drop (first - 1) ps)

-- a request with the meaning of its register
pub record Call : Type 0 where
  pub asked : Request
  pub register : List Listed

-- what a request leaves in the history
abbrev pub event : Call → Result Answer Refusal → State → Event
event c a s = record { asked = c.asked; register = c.register; answered = a; wrote = rows_named a s.pairs.rows }

-- where a run stands
pub record Run : Type 0 where
  pub history : History
  pub state : State

-- after one more request
abbrev pub stepped : Run → Call → Run
stepped run c =
    let o : Outcome = step c.register run.state c.asked in
    record { history = event c o.answer o.after ∷ run.history; state = o.after }

-- after a list of them
unfoldable pub ran : Run → List Call → Run
ran run [] = run
ran run (c ∷ cs) = ran (stepped run c) cs

-- the empty book of a beginning
abbrev pub begun : Beginning → Run
begun b = record {
  history = [];
  state = record {
    day = b.day;
    trades = record { count = 0; size = b.trade_rows; rows = [] };
    intermediations = record { count = 0; size = b.intermediation_rows; rows = [] };
    pairs = record { count = 0; size = b.pair_rows; rows = [] };
    selic = b.selic;
    control = b.control;
  };
}
