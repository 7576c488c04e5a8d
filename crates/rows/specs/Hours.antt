-- Until when a trade can be acted on.
use Rattle.std.specs.Prelude.{ℕ, Bool, cond, nat_le}
use Rattle.fields.specs.declared.trade.Terms.{Terms}
use Rattle.rows.specs.Accounts.{is_selic}

-- the last minute of the day in time for a trade, on the book's day: it settles on that day or before it, or later
abbrev pub last_minute : ℕ → Terms → ℕ
last_minute day t =
    cond (nat_le t.settlement day) (cond (is_selic t.kind) 1080 1060) (cond (is_selic t.kind) 1200 1170)

abbrev pub in_time : ℕ → ℕ → Terms → Bool
in_time day minute t = nat_le minute (last_minute day t)
