-- The plain book, and what a history tells: which request filled a side last, and which numbers were given.
-- The plain book is fed each request with its answer. It knows no rows, entries, pairs or numbers.
use Rattle.std.specs.Prelude.{ℕ, Bool, true, false, cond, ◌&&◌, ◌||◌, List, [], ◌∷◌, ◌++◌, map, Some, None, Ok, Err, Option, Result, ◌==◌, nat_eq}
use Rattle.std.specs.Bool.{beq}
use Rattle.fields.specs.declared.answer.Answer.{Answer}
use Rattle.fields.specs.declared.answer.Answer.TheVariants.{Marked, Written}
use Rattle.fields.specs.declared.answer.Refusal.{Refusal}
use Rattle.fields.specs.declared.trade.Entry.{Entry}
use Rattle.fields.specs.declared.trade.Intermediation.{Intermediation}
use Rattle.fields.specs.declared.trade.Pair.{Pair}
use Rattle.fields.specs.declared.trade.Side.{Side}
use Rattle.fields.specs.declared.trade.Side.TheVariants.{Buyer, Seller}
use Rattle.fields.specs.declared.trade.Terms.{Terms}
use Rattle.keyed.specs.Lists.{any, those}
use Rattle.keyed.specs.Rows.{changed, entered, find, removed}
use Rattle.register.specs.Meaning.{Listed}
use Rattle.requests.specs.declared.request.Request.{Request}
use Rattle.requests.specs.declared.request.Request.TheVariants.{Cancel, Capture, Close, Confirm, ConfirmIntermediation, ExcludeIntermediation, Include, Intermediate, Remove}
use Rattle.rows.specs.Accounts.{is_selic}
use Rattle.rows.specs.Legs.{has_leg, id, leg}
use Rattle.rows.specs.Trades.{no_trade}
use Rattle.rows.specs.declared.row.AllocationState.{AllocationState}
use Rattle.rows.specs.declared.row.AllocationState.TheVariants.{Allocated, Confirmed, Empty}
use Rattle.book.specs.Entries.{entries_of}
use Rattle.book.specs.Runs.{History}
use Rattle.book.specs.Tests.{refusal}

-- what is done with an answer of acceptance; a refusal leaves things alone
abbrev pub if_accepted : {X : Type 0} → Result Answer Refusal → (Answer → X) → X → X
if_accepted (Ok a) f x = f a
if_accepted (Err refusal) f x = x

-- ── The plain book ──

-- a trade as captured, and how each of its sides stands: empty, allocated or confirmed
pub record PlainTrade : Type 0 where
  pub terms : Terms
  pub buyer : AllocationState
  pub seller : AllocationState

-- the day, the trades, and the intermediations that stand, each list in rising order
pub record Plain : Type 0 where
  pub day : ℕ
  pub trades : List PlainTrade
  pub standing : List Intermediation

abbrev pub plain_number : PlainTrade → ℕ
plain_number t = t.terms.number

abbrev pub put : Side → AllocationState → PlainTrade → PlainTrade
put Buyer st t = record { terms = t.terms; buyer = st; seller = t.seller }
put Seller st t = record { terms = t.terms; buyer = t.buyer; seller = st }

-- side w of trade n is now so
abbrev pub side_now : AllocationState → Side → ℕ → Plain → Plain
side_now st w n p = record { day = p.day; trades = changed plain_number n (put w st) p.trades; standing = p.standing }

-- both sides that an intermediation holds are now so
abbrev pub sides_now : AllocationState → Intermediation → Plain → Plain
sides_now st x p = side_now st Seller x.sold (side_now st Buyer x.bought p)

abbrev pub sides_of_now : AllocationState → Option Intermediation → Plain → Plain
sides_of_now st None p = p
sides_of_now st (Some x) p = sides_now st x p

-- an intermediation goes, and its sides are emptied
abbrev pub gone : Intermediation → Plain → Plain
gone x p = sides_now Empty x (record { day = p.day; trades = p.trades; standing = removed id x.id p.standing })

abbrev pub all_gone : List Intermediation → Plain → Plain
all_gone [] p = p
all_gone (x ∷ xs) p = all_gone xs (gone x p)

-- the intermediation names this trade, as bought or as sold
abbrev pub names : ℕ → Intermediation → Bool
names n x = x.bought == n || x.sold == n

abbrev pub filled_as : Bool → AllocationState
filled_as confirm = cond confirm Confirmed Allocated

-- what an accepted request does to the plain book
abbrev pub fed : Plain → Request → Answer → Plain
fed p (Capture q) a =
    record { day = p.day; trades = entered plain_number (record { terms = q.terms; buyer = Empty; seller = Empty }) p.trades; standing = p.standing }
fed p (Cancel q) Marked = p
fed p (Cancel q) (Written n first) =
    side_now Empty Seller q.trade (side_now Empty Buyer q.trade (all_gone (those (names q.trade) p.standing) p))
fed p (Include q) a = side_now (filled_as q.now) q.side q.trade p
fed p (Remove q) a = side_now Empty q.side q.trade p
fed p (Confirm q) a = side_now Confirmed q.side q.trade p
fed p (Intermediate q) a =
    sides_now (filled_as q.now) q.intermediation
    (record { day = p.day; trades = p.trades; standing = entered id q.intermediation p.standing })
fed p (ConfirmIntermediation q) a = sides_of_now Confirmed (find id q.id p.standing) p
fed p (ExcludeIntermediation q) a = all_gone (those (λ x. nat_eq x.id q.id) p.standing) p
fed p (Close q) a = record { day = q.day; trades = []; standing = [] }

-- the plain book after a history that began on this day
unfoldable pub plain : ℕ → History → Plain
plain day [] = record { day = day; trades = []; standing = [] }
plain day (e ∷ h) = if_accepted e.answered (fed (plain day h) e.asked) (plain day h)

abbrev pub terms_of : Option PlainTrade → Terms
terms_of None = no_trade.terms
terms_of (Some t) = t.terms

-- the trade as captured
abbrev pub terms_in : Plain → ℕ → Terms
terms_in p n = terms_of (find plain_number n p.trades)

-- ── What filled a side last ──

-- an accepted request leaves a side, empties it, or fills it with entries
pub data Touch : Type 0 where
  leaves : Touch
  empties : Touch
  fills : List Entry → Touch

abbrev pub is_side : Side → Side → Bool
is_side Buyer Buyer = true
is_side Buyer Seller = false
is_side Seller Buyer = false
is_side Seller Seller = true

-- the intermediation holds side w of trade n
abbrev pub holds_side : Side → ℕ → Intermediation → Bool
holds_side w n x = has_leg w x && leg w x == n

-- what an accepted request does to side w of trade n, by the plain book before it
abbrev pub touch : Plain → Request → Answer → Side → ℕ → Touch
touch p (Capture q) a w n = leaves
touch p (Cancel q) Marked w n = leaves
touch p (Cancel q) (Written k first) w n =
    cond (q.trade == n || any (λ x. names q.trade x && holds_side w n x) p.standing) empties leaves
touch p (Include q) a w n = cond (is_side q.side w && q.trade == n) (fills (entries_of q)) leaves
touch p (Remove q) a w n = cond (is_side q.side w && q.trade == n) empties leaves
touch p (Confirm q) a w n = leaves
touch p (Intermediate q) a w n =
    cond (holds_side w n q.intermediation) (fills (record { account = q.intermediation.account; quantity = (terms_in p n).quantity; client = 0 } ∷ [])) leaves
touch p (ConfirmIntermediation q) a w n = leaves
touch p (ExcludeIntermediation q) a w n = cond (any (λ x. (x.id == q.id) && holds_side w n x) p.standing) empties leaves
touch p (Close q) a w n = empties

-- a filling: the entries, the register of that request, and the book's day and the trade as captured then
pub record Filling : Type 0 where
  pub entries : List Entry
  pub register : List Listed
  pub day : ℕ
  pub terms : Terms

-- the last filling after a touch, with the one before it
abbrev pub touched : Touch → List Listed → ℕ → Terms → Option Filling → Option Filling
touched leaves r day t before = before
touched empties r day t before = None
touched (fills es) r day t before = Some (record { entries = es; register = r; day = day; terms = t })

-- the last accepted request that filled side w of trade n, if no later one emptied it
unfoldable pub last_filling : ℕ → Side → ℕ → History → Option Filling
last_filling day w n [] = None
last_filling day w n (e ∷ h) =
    if_accepted e.answered
    (λ a. touched (touch (plain day h) e.asked a w n) e.register (plain day h).day (terms_in (plain day h) n) (last_filling day w n h))
    (last_filling day w n h)

abbrev pub filling_entries : Option Filling → List Entry
filling_entries None = []
filling_entries (Some f) = f.entries

-- ── Pairs and numbers ──

-- the numbers of the pairs written for trades of kind Selic, or for those of the other kinds, in order; a closing takes none away
unfoldable pub given : Bool → ℕ → History → List ℕ
given selic day [] = []
given selic day (e ∷ h) =
    given selic day h ++ map (λ p. p.number) (those (λ p. beq (is_selic (terms_in (plain day h) p.first).kind) selic) e.wrote)

abbrev pub closes : Request → Bool
closes (Capture q) = false
closes (Cancel q) = false
closes (Include q) = false
closes (Remove q) = false
closes (Confirm q) = false
closes (Intermediate q) = false
closes (ConfirmIntermediation q) = false
closes (ExcludeIntermediation q) = false
closes (Close q) = true

-- the pairs written since the last closing
unfoldable pub written_since : History → List Pair
written_since [] = []
written_since (e ∷ h) = if_accepted e.answered (λ a. cond (closes e.asked) [] (written_since h ++ e.wrote)) (written_since h)
