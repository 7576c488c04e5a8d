-- The worked day and the edges, as cases: requests with the answers wanted, and the pairs wanted at the end.
use Rattle.std.specs.Prelude.{◌≡◌, ℕ, true, false, List, [], ◌∷◌}
use Rattle.fields.specs.Ranges.{numbers}
use Rattle.fields.specs.declared.account.AccountType.TheVariants.{SI, SL}
use Rattle.fields.specs.declared.account.Status.TheVariants.{Active}
use Rattle.fields.specs.declared.trade.Intermediation.{Intermediation}
use Rattle.fields.specs.declared.trade.Kind.TheVariants.{Deposited, Registered, Selic}
use Rattle.fields.specs.declared.trade.Side.{Side}
use Rattle.fields.specs.declared.trade.Side.TheVariants.{Buyer, Seller}
use Rattle.keyed.specs.Members.{Each}
use Rattle.register.specs.Meaning.{Listed}
use Rattle.requests.specs.declared.request.Request.{Request}
use Rattle.rows.specs.Trades.{at_side, captured}
use Rattle.rows.specs.declared.row.Allocation.{Allocation}
use Rattle.rows.specs.declared.row.Trade.{Trade}
use Rattle.book.specs.Lines.{A, C, D, Day, E, F, G, I, J, P, R, Said, T, X, Z, day_of, entry, listed, said, tie}
use Rattle.book.specs.Runs.{Beginning}
use Rattle.book.specs.State.{State}
use Rattle.book.specs.Steps.{step}
use Rattle.book.specs.Tests.{refusal}

pub record Case : Type 0 where
  pub beginning : Beginning
  pub register : List Listed
  pub requests : List Request
  pub wanted : Day

-- what the model says is what is wanted
abbrev pub ComesOut : Case → Type 0
ComesOut c = day_of c.beginning c.register c.requests ≡ c.wanted

-- day 100, with these numbers left and this many pair rows
abbrev pub day_100 : List ℕ → List ℕ → ℕ → Beginning
day_100 selic control pair_rows = record { day = 100; trade_rows = 64; intermediation_rows = 64; pair_rows = pair_rows; selic = selic; control = control }

-- ── The worked day ──

abbrev pub worked_register : List Listed
worked_register =
    listed 11 SL Active 50 true false false (tie 1 7 ∷ [])
    ∷ listed 12 SL Active 50 true false false (tie 2 8 ∷ [])
    ∷ listed 13 SI Active 50 true false false (tie 3 9 ∷ []) ∷ []

abbrev pub worked : Case
worked = record {
  beginning = day_100 (501 ∷ 502 ∷ 503 ∷ []) [] 1024;
  register = worked_register;
  requests =
      C 600 1 Selic 77 100 100 3 9 1 7
      ∷ C 601 2 Selic 77 100 100 2 8 3 9
      ∷ I 606 1 1 Seller true (entry 11 100 0 ∷ [])
      ∷ J 610 3 5 13 1 2 true
      ∷ I 620 2 2 Buyer true (entry 12 60 0 ∷ entry 12 40 0 ∷ [])
      ∷ E 631 3 5 ∷ [];
  wanted = record {
    says = A 0 0 ∷ A 0 0 ∷ A 0 0 ∷ A 0 0 ∷ A 2 1 ∷ R 31 0 ∷ [];
    leaves = P 501 1 11 2 12 60 ∷ P 502 1 11 2 12 40 ∷ [];
  };
}

-- ── The edges ──

-- in time to the minute; the last is a Selic title that settles later
abbrev pub hours : Case
hours = record {
  beginning = day_100 [] [] 4;
  register = [];
  requests =
      C 1080 1 Selic 77 100 100 1 1 2 2 ∷ C 1081 2 Selic 77 100 100 1 1 2 2
      ∷ C 1060 3 Deposited 77 100 100 1 1 2 2 ∷ C 1061 4 Deposited 77 100 100 1 1 2 2
      ∷ C 1170 5 Registered 77 100 101 1 1 2 2 ∷ C 1171 6 Registered 77 100 101 1 1 2 2
      ∷ C 1200 7 Selic 77 100 101 1 1 2 2 ∷ C 1201 8 Selic 77 100 101 1 1 2 2 ∷ [];
  wanted = record { says = A 0 0 ∷ R 11 0 ∷ A 0 0 ∷ R 11 0 ∷ A 0 0 ∷ R 11 0 ∷ A 0 0 ∷ R 11 0 ∷ []; leaves = [] };
}

-- accounts of one participant or of two, the last two of the type for intermediations
abbrev pub edge_register : List Listed
edge_register =
    listed 21 SL Active 99 true false false (tie 1 1 ∷ [])
    ∷ listed 22 SL Active 100 true false false (tie 1 1 ∷ [])
    ∷ listed 23 SL Active 1 true false false (tie 2 2 ∷ [])
    ∷ listed 24 SL Active 1 true false false (tie 2 2 ∷ [])
    ∷ listed 25 SI Active 1 true false false (tie 1 1 ∷ tie 2 2 ∷ [])
    ∷ listed 26 SI Active 1 true false false (tie 1 1 ∷ []) ∷ []

abbrev pub trade_1 : Request
trade_1 = C 600 1 Selic 77 100 100 1 1 2 2

-- an account of the day before passes, one of the day itself does not
abbrev pub registered_day : Case
registered_day = record {
  beginning = day_100 [] [] 4;
  register = edge_register;
  requests = trade_1 ∷ I 600 1 1 Buyer false (entry 21 100 0 ∷ []) ∷ I 600 1 1 Buyer false (entry 22 100 0 ∷ []) ∷ [];
  wanted = record { says = A 0 0 ∷ A 0 0 ∷ R 18 1 ∷ []; leaves = [] };
}

-- for 100, entries of 60 and 40 pass; 60 and 39, or 60 and 41, do not
abbrev pub sums : Case
sums = record {
  beginning = day_100 [] [] 4;
  register = edge_register;
  requests =
      trade_1 ∷ I 600 2 1 Seller false (entry 23 60 0 ∷ entry 24 40 0 ∷ [])
      ∷ I 600 2 1 Seller false (entry 23 60 0 ∷ entry 24 39 0 ∷ []) ∷ I 600 2 1 Seller false (entry 23 60 0 ∷ entry 24 41 0 ∷ []) ∷ [];
  wanted = record { says = A 0 0 ∷ A 0 0 ∷ R 23 0 ∷ R 23 0 ∷ []; leaves = [] };
}

-- sellers 60, 40 with buyers 30, 70; a refusal before changes nothing
abbrev pub paired : Case
paired = record {
  beginning = day_100 (7 ∷ 8 ∷ 9 ∷ []) [] 4;
  register = edge_register;
  requests =
      trade_1 ∷ I 600 2 1 Seller true (entry 23 60 0 ∷ entry 24 40 0 ∷ []) ∷ I 600 1 1 Buyer false (entry 21 30 0 ∷ entry 21 70 0 ∷ [])
      ∷ F 600 2 1 Buyer ∷ F 600 1 1 Buyer ∷ F 600 1 1 Buyer ∷ X 600 1 ∷ D 600 1 1 Buyer ∷ [];
  wanted = record {
    says = A 0 0 ∷ A 0 0 ∷ A 0 0 ∷ R 13 0 ∷ A 3 1 ∷ R 14 0 ∷ T ∷ R 14 0 ∷ [];
    leaves = P 7 1 23 1 21 30 ∷ P 8 1 23 1 21 30 ∷ P 9 1 24 1 21 40 ∷ [];
  };
}

-- one number, or one row, too few: nothing is written, and the side is not even allocated
abbrev pub too_few : List ℕ → ℕ → Said → Case
too_few numbers pair_rows refusal = record {
  beginning = day_100 numbers [] pair_rows;
  register = edge_register;
  requests =
      trade_1 ∷ I 600 2 1 Seller true (entry 23 60 0 ∷ entry 24 40 0 ∷ []) ∷ I 600 1 1 Buyer true (entry 21 30 0 ∷ entry 21 70 0 ∷ [])
      ∷ D 600 1 1 Buyer ∷ [];
  wanted = record { says = A 0 0 ∷ A 0 0 ∷ refusal ∷ R 16 0 ∷ []; leaves = [] };
}

-- trades of one quantity between participants 1 and 2, each the buyer and the seller of others
abbrev pub line_of : List Request → List Request
line_of qs =
    C 600 1 Selic 77 100 100 1 1 2 2 ∷ C 600 2 Selic 77 100 100 1 1 1 1 ∷ C 600 3 Selic 77 100 100 1 1 1 1
    ∷ C 600 4 Selic 77 100 100 2 2 1 1 ∷ qs

-- a chain of two joined to one passes; two chains of two do not, nor a trade with itself; the account may not stand on both sides of a trade
abbrev pub chains : Case
chains = record {
  beginning = day_100 [] [] 4;
  register = edge_register;
  requests = line_of (
      J 600 1 1 25 1 2 false ∷ J 600 1 2 25 2 3 false ∷ J 600 1 2 26 2 3 false ∷ E 600 1 2 ∷ J 600 1 3 25 3 4 false ∷ J 600 1 2 26 2 3 false
      ∷ E 600 1 3 ∷ J 600 1 4 26 3 3 false ∷ J 600 1 4 26 2 3 false ∷ J 600 1 5 25 3 1 false ∷ []);
  wanted = record {
    says = A 0 0 ∷ A 0 0 ∷ A 0 0 ∷ A 0 0 ∷ A 0 0 ∷ R 21 1 ∷ A 0 0 ∷ A 0 0 ∷ A 0 0 ∷ R 30 0 ∷ A 0 0 ∷ R 30 0 ∷ A 0 0 ∷ R 13 2 ∷ [];
    leaves = [];
  };
}

-- a chain is numbered when all its sides are confirmed, and not when one of its trades is
abbrev pub all_confirmed : Case
all_confirmed = record {
  beginning = day_100 (7 ∷ 8 ∷ []) [] 4;
  register = edge_register;
  requests = line_of (
      I 600 2 1 Seller true (entry 23 100 0 ∷ []) ∷ I 600 2 4 Buyer false (entry 24 100 0 ∷ []) ∷ J 600 1 1 25 1 4 true ∷ F 600 2 4 Buyer ∷ []);
  wanted = record { says = A 0 0 ∷ A 0 0 ∷ A 0 0 ∷ A 0 0 ∷ A 0 0 ∷ A 0 0 ∷ A 0 0 ∷ A 1 1 ∷ []; leaves = P 7 1 23 4 24 100 ∷ [] };
}

-- the middle trade of a chain is cancelled: both its intermediations go, and their four sides are empty; its number stays taken
abbrev pub cancelling : Case
cancelling = record {
  beginning = day_100 [] [] 4;
  register = edge_register;
  requests = line_of (
      J 600 1 1 25 1 2 true ∷ J 600 1 2 26 2 3 false ∷ X 600 2 ∷ X 600 2 ∷ E 600 1 1 ∷ E 600 1 2 ∷ D 600 1 1 Buyer ∷ D 600 1 3 Seller
      ∷ J 600 1 1 25 1 3 false ∷ C 600 2 Selic 77 100 100 1 1 1 1 ∷ J 600 1 2 26 0 4 true ∷ G 600 1 1 ∷ G 600 1 2 ∷ []);
  wanted = record {
    says = A 0 0 ∷ A 0 0 ∷ A 0 0 ∷ A 0 0 ∷ A 0 0 ∷ A 0 0 ∷ A 0 0 ∷ R 8 0 ∷ R 28 0 ∷ R 28 0 ∷ R 16 0 ∷ R 16 0 ∷ A 0 0 ∷ R 5 0 ∷ A 0 0 ∷ A 0 0 ∷ R 14 0 ∷ [];
    leaves = [];
  };
}

-- a closing empties the tables; the numbers given stay given
abbrev pub closing : Case
closing = record {
  beginning = day_100 (7 ∷ 8 ∷ 9 ∷ 10 ∷ []) [] 4;
  register = edge_register;
  requests =
      trade_1 ∷ I 600 2 1 Seller true (entry 23 100 0 ∷ []) ∷ I 600 1 1 Buyer true (entry 21 100 0 ∷ []) ∷ Z 1200 101 ∷ Z 1201 100 ∷ Z 1201 101
      ∷ C 600 1 Selic 77 100 101 1 1 2 2 ∷ I 600 2 1 Seller true (entry 23 100 0 ∷ []) ∷ I 600 1 1 Buyer true (entry 21 100 0 ∷ []) ∷ [];
  wanted = record {
    says = A 0 0 ∷ A 0 0 ∷ A 1 1 ∷ R 12 0 ∷ R 12 0 ∷ A 0 0 ∷ A 0 0 ∷ A 0 0 ∷ A 1 1 ∷ [];
    leaves = P 8 1 23 1 21 100 ∷ [];
  };
}

-- fields from left to right
abbrev pub fields : Case
fields = record {
  beginning = day_100 [] [] 4;
  register = edge_register;
  requests =
      C 1440 0 Selic 0 0 0 0 0 0 0 ∷ C 1439 1 Selic 0 0 0 0 0 0 0 ∷ C 600 1 Selic 1 100000001 0 0 0 0 0 ∷ C 600 1 Selic 1 1 1 65535 1 1 65536
      ∷ I 600 1 1 Buyer false [] ∷ I 600 1 1 Buyer false (entry 1 1 0 ∷ entry 1 0 0 ∷ []) ∷ J 600 1 1 1 0 0 false ∷ J 600 1 1 1 1000000000 0 false ∷ Z 1201 100000 ∷ [];
  wanted = record { says = R 2 2 ∷ R 2 5 ∷ R 2 6 ∷ R 2 11 ∷ R 2 7 ∷ R 2 12 ∷ R 2 7 ∷ R 2 6 ∷ R 2 3 ∷ []; leaves = [] };
}

abbrev pub cases : List Case
cases =
    worked ∷ hours ∷ registered_day ∷ sums ∷ paired ∷ too_few (7 ∷ 8 ∷ []) 4 (R 32 0) ∷ too_few (7 ∷ 8 ∷ 9 ∷ []) 2 (R 33 0)
    ∷ chains ∷ all_confirmed ∷ cancelling ∷ closing ∷ fields ∷ []

abbrev pub CasesHold : Type 0
CasesHold = Each ComesOut cases

-- ── Tables of another book ──

-- three trades and two intermediations, whatever they are
abbrev pub holding : List Trade → List Intermediation → State
holding ts xs = record {
  day = 100;
  trades = record { count = 3; size = 4; rows = ts };
  intermediations = record { count = 2; size = 4; rows = xs };
  pairs = record { count = 0; size = 4; rows = [] };
  selic = 7 ∷ [];
  control = [];
}

-- trade n, its buyer side tied to one id and its seller side to another
abbrev pub tied : ℕ → ℕ → Side → Allocation → Allocation
tied n m Buyer d = record { state = d.state; tie = n; count = d.count; entries = d.entries }
tied n m Seller d = record { state = d.state; tie = m; count = d.count; entries = d.entries }

abbrev pub a_trade : ℕ → ℕ → ℕ → Trade
a_trade n b s =
    at_side Buyer (tied b s Buyer) (at_side Seller (tied b s Seller)
    (captured (record { number = n; kind = Selic; asset = 77; quantity = 100; settlement = 100; buyer = tie 1 1; seller = tie 2 2 })))

abbrev pub intermediation_of : ℕ → ℕ → ℕ → Intermediation
intermediation_of n bought sold = record { id = n; participant = 1; account = 25; bought = bought; sold = sold }

abbrev pub asks : State → Request → Said
asks s q = said (step edge_register s q).answer

-- the usual trades and intermediations: a chain of three
abbrev pub lawful_trades : List Trade
lawful_trades = a_trade 1 1 0 ∷ a_trade 2 2 1 ∷ a_trade 3 0 2 ∷ []

abbrev pub lawful_intermediations : List Intermediation
lawful_intermediations = intermediation_of 1 1 2 ∷ intermediation_of 2 2 3 ∷ []

-- what is answered over tables of another book
abbrev pub Foreign : Type 0
Foreign =
    -- a chain of three
    asks (holding lawful_trades lawful_intermediations) (X 600 2)
    -- one leads to a fourth trade that is not there
    ∷ asks (holding lawful_trades (intermediation_of 1 1 2 ∷ intermediation_of 2 2 4 ∷ [])) (X 600 1)
    -- the third trade is not tied back
    ∷ asks (holding (a_trade 1 1 0 ∷ a_trade 2 2 1 ∷ a_trade 3 0 3 ∷ []) lawful_intermediations) (X 600 1)
    -- the second intermediation names another trade
    ∷ asks (holding lawful_trades (intermediation_of 1 1 2 ∷ intermediation_of 2 1 3 ∷ [])) (X 600 1)
    -- a ring
    ∷ asks (holding (a_trade 1 1 2 ∷ a_trade 2 2 1 ∷ a_trade 3 0 0 ∷ []) (intermediation_of 1 1 2 ∷ intermediation_of 2 2 1 ∷ [])) (X 600 1)
    ∷ asks (holding (a_trade 1 1 2 ∷ a_trade 2 2 1 ∷ a_trade 3 0 0 ∷ []) (intermediation_of 1 1 2 ∷ intermediation_of 2 2 1 ∷ [])) (E 600 1 1)
    -- the numbers of the trades do not rise
    ∷ asks (holding (a_trade 1 0 0 ∷ a_trade 3 0 0 ∷ a_trade 3 0 0 ∷ []) lawful_intermediations) (X 600 1)
    -- an intermediation has no leg
    ∷ asks (holding (a_trade 1 0 0 ∷ a_trade 2 0 0 ∷ a_trade 3 0 0 ∷ []) (intermediation_of 1 1 2 ∷ intermediation_of 2 0 0 ∷ [])) (Z 1300 101)
    -- a tie is out of range
    ∷ asks (holding (a_trade 1 0 0 ∷ a_trade 2 0 0 ∷ a_trade 3 1000000000 0 ∷ []) lawful_intermediations) (Z 1300 101)
    -- the legs of the intermediation are not tied to it
    ∷ asks (holding (a_trade 1 0 0 ∷ a_trade 2 0 0 ∷ a_trade 3 9 0 ∷ []) lawful_intermediations) (G 600 1 1)
    -- a tie leads to no intermediation
    ∷ asks (holding (a_trade 1 0 0 ∷ a_trade 2 0 0 ∷ a_trade 3 9 0 ∷ []) lawful_intermediations) (X 600 3)
    ∷ []
    ≡ A 0 0 ∷ R 9 0 ∷ R 9 0 ∷ R 9 0 ∷ R 9 0 ∷ R 9 0 ∷ R 4 0 ∷ R 4 0 ∷ R 4 0 ∷ R 9 0 ∷ R 9 0 ∷ []
