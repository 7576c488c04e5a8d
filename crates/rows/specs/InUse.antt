-- Which fields of the rows are in use, and their ranges. Not in use are the entries behind a side's count, and all entries of an empty side.
use Rattle.std.specs.Prelude.{ℕ, Bool, ◌&&◌, ◌||◌}
use Rattle.fields.specs.Ranges.{accounts, days, entry_counts, is_in_range, numbers, numbers_or_none, participants, quantities}
use Rattle.fields.specs.declared.trade.Entry.{Entry}
use Rattle.fields.specs.declared.trade.Terms.{Terms}
use Rattle.keyed.specs.Lists.{all}
use Rattle.keyed.specs.Rows.{Table, rises_above, whole}
use Rattle.rows.specs.Allocations.{held, is_empty}
use Rattle.rows.specs.declared.row.Allocation.{Allocation}
use Rattle.rows.specs.declared.row.Trade.{Trade}

abbrev pub good_entry : Entry → Bool
good_entry e = is_in_range accounts e.account && is_in_range quantities e.quantity && is_in_range numbers_or_none e.client

abbrev pub good_allocation : Allocation → Bool
good_allocation d = is_in_range numbers_or_none d.tie && (is_empty d.state || (is_in_range entry_counts d.count && all (λ e. good_entry e.entry) (held d)))

abbrev pub good_terms : Terms → Bool
good_terms t =
    is_in_range numbers t.number && is_in_range numbers t.asset && is_in_range quantities t.quantity && is_in_range days t.settlement
    && is_in_range participants t.buyer.participant && is_in_range participants t.buyer.offeror
    && is_in_range participants t.seller.participant && is_in_range participants t.seller.offeror

abbrev pub good_trade : Trade → Bool
good_trade t = good_terms t.terms && good_allocation t.buyer && good_allocation t.seller

-- a keyed table that can be used: it has its rows, no more than the limit, each good, and their keys rise
unfoldable pub stands : {R : Type 0} → ℕ → (R → ℕ) → (R → Bool) → Table R → Bool
stands limit key good t = whole limit good t && rises_above key 0 t.rows
