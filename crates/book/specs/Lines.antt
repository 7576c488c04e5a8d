-- Requests, accounts, answers and pairs written as in their lines, for cases and whole days.
use Rattle.std.specs.Prelude.{ℕ, ◌-◌, Bool, List, [], ◌∷◌, ◌++◌, map, reverse, length, replicate, Ok, Err, Result}
use Rattle.fields.specs.Grounds.{number_of}
use Rattle.fields.specs.declared.account.AccountType.{AccountType}
use Rattle.fields.specs.declared.account.Party.{Party}
use Rattle.fields.specs.declared.account.Status.{Status}
use Rattle.fields.specs.declared.answer.Answer.{Answer}
use Rattle.fields.specs.declared.answer.Answer.TheVariants.{Marked, Written}
use Rattle.fields.specs.declared.answer.Refusal.{Refusal}
use Rattle.fields.specs.declared.trade.Entry.{Entry}
use Rattle.fields.specs.declared.trade.Kind.{Kind}
use Rattle.fields.specs.declared.trade.Pair.{Pair}
use Rattle.fields.specs.declared.trade.Side.{Side}
use Rattle.register.specs.Meaning.{Listed}
use Rattle.requests.specs.declared.request.Request.{Request}
use Rattle.requests.specs.declared.request.Request.TheVariants.{Cancel, Capture, Close, Confirm, ConfirmIntermediation, ExcludeIntermediation, Include, Intermediate, Remove}
use Rattle.rows.specs.Allocations.{no_entry}
use Rattle.book.specs.Runs.{Beginning, Call, Run, begun, ran}

-- ── Requests, by their letters ──

abbrev pub C : ℕ → ℕ → Kind → ℕ → ℕ → ℕ → ℕ → ℕ → ℕ → ℕ → Request
C minute n kind asset quantity settlement b bo s so =
    Capture (record { minute = minute; terms = record { number = n; kind = kind; asset = asset; quantity = quantity; settlement = settlement; buyer = record { participant = b; offeror = bo }; seller = record { participant = s; offeror = so } } })

abbrev pub X : ℕ → ℕ → Request
X minute n = Cancel (record { minute = minute; trade = n })

abbrev pub entry : ℕ → ℕ → ℕ → Entry
entry a q c = record { account = a; quantity = q; client = c }

abbrev pub I : ℕ → ℕ → ℕ → Side → Bool → List Entry → Request
I minute who n w now es =
    Include (record { minute = minute; participant = who; trade = n; side = w; now = now; count = length es; entries = es ++ replicate (16 - length es) no_entry })

abbrev pub D : ℕ → ℕ → ℕ → Side → Request
D minute who n w = Remove (record { minute = minute; participant = who; trade = n; side = w })

abbrev pub F : ℕ → ℕ → ℕ → Side → Request
F minute who n w = Confirm (record { minute = minute; participant = who; trade = n; side = w })

abbrev pub J : ℕ → ℕ → ℕ → ℕ → ℕ → ℕ → Bool → Request
J minute who n account bought sold now =
    Intermediate (record { minute = minute; intermediation = record { id = n; participant = who; account = account; bought = bought; sold = sold }; now = now })

abbrev pub G : ℕ → ℕ → ℕ → Request
G minute who n = ConfirmIntermediation (record { minute = minute; participant = who; id = n })

abbrev pub E : ℕ → ℕ → ℕ → Request
E minute who n = ExcludeIntermediation (record { minute = minute; participant = who; id = n })

abbrev pub Z : ℕ → ℕ → Request
Z minute day = Close (record { minute = minute; day = day })

-- ── Accounts ──

abbrev pub tie : ℕ → ℕ → Party
tie p o = record { participant = p; offeror = o }

abbrev pub listed : ℕ → AccountType → Status → ℕ → Bool → Bool → Bool → List Party → Listed
listed code class status day s d r ties =
    record { account = record { code = code; class = class; status = status; day = day; markets = record { selic = s; deposited = d; registered = r } }; ties = ties }

-- ── Answers and pairs ──

-- A n first: n pairs were written from row first on; T: only marked; R number place: refused
pub data Said : Type 0 where
  A : ℕ → ℕ → Said
  T : Said
  R : ℕ → ℕ → Said

abbrev pub said : Result Answer Refusal → Said
said (Ok (Written n first)) = A n first
said (Ok Marked) = T
said (Err f) = R (number_of f.ground) f.place

abbrev pub P : ℕ → ℕ → ℕ → ℕ → ℕ → ℕ → Pair
P n first seller last buyer quantity = record { number = n; first = first; seller = seller; last = last; buyer = buyer; quantity = quantity }

-- ── A run with one register: what it answers, and the pairs at its end ──

abbrev pub calls : List Listed → List Request → List Call
calls r [] = []
calls r (q ∷ qs) = record { asked = q; register = r } ∷ calls r qs

abbrev pub answers : Run → List Said
answers run = map (λ e. said e.answered) (reverse run.history)

pub record Day : Type 0 where
  pub says : List Said
  pub leaves : List Pair

abbrev pub seen : Run → Day
seen run = record { says = answers run; leaves = run.state.pairs.rows }

unfoldable pub day_of : Beginning → List Listed → List Request → Day
day_of b r qs = seen (ran (begun b) (calls r qs))
