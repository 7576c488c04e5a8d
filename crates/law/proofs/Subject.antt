-- The words of the subject that the proofs of the law share, passed on.
pub use Rattle.fields.specs.Grounds.{number_of}
pub use Rattle.fields.specs.Ranges.{is_in_range, numbers, numbers_or_none, quantities}
pub use Rattle.fields.specs.declared.answer.Answer.{Answer}
pub use Rattle.fields.specs.declared.answer.Answer.TheVariants.{Marked, Written}
pub use Rattle.fields.specs.declared.answer.Refusal.{Refusal}
pub use Rattle.fields.specs.declared.trade.Entry.{Entry}
pub use Rattle.fields.specs.declared.trade.Intermediation.{Intermediation}
pub use Rattle.fields.specs.declared.trade.Kind.{Kind}
pub use Rattle.fields.specs.declared.trade.Kind.TheVariants.{Selic}
pub use Rattle.fields.specs.declared.trade.Pair.{Pair}
pub use Rattle.fields.specs.declared.trade.Side.{Side}
pub use Rattle.fields.specs.declared.trade.Side.TheVariants.{Buyer, Seller}
pub use Rattle.fields.specs.declared.trade.Terms.{Terms}
pub use Rattle.keyed.specs.Lists.{all, any, is_some, or_else, those}
pub use Rattle.keyed.specs.Members.{Each, In}
pub use Rattle.keyed.specs.Rows.{Table, changed, changed_in, entered, find, removed, removed_in, rises_above}
pub use Rattle.register.specs.Meaning.{Listed, account_in, tied_in}
pub use Rattle.requests.specs.declared.request.Cancellation.{Cancellation}
pub use Rattle.requests.specs.declared.request.Closing.{Closing}
pub use Rattle.requests.specs.declared.request.Inclusion.{Inclusion}
pub use Rattle.requests.specs.declared.request.IntermediationCall.{IntermediationCall}
pub use Rattle.requests.specs.declared.request.NewIntermediation.{NewIntermediation}
pub use Rattle.requests.specs.declared.request.NewTrade.{NewTrade}
pub use Rattle.requests.specs.declared.request.Request.{Request}
pub use Rattle.requests.specs.declared.request.Request.TheVariants.{Cancel, Capture, Close, Confirm, ConfirmIntermediation, ExcludeIntermediation, Include, Intermediate, Remove}
pub use Rattle.requests.specs.declared.request.SideCall.{SideCall}
pub use Rattle.rows.specs.Accounts.{active, is_selic, suits}
pub use Rattle.rows.specs.Allocations.{confirmed, emptied, entries_held, held, is_confirmed, is_empty, other, total}
pub use Rattle.keyed.specs.Plain.{good_intermediation}
pub use Rattle.rows.specs.InUse.{good_trade}
pub use Rattle.rows.specs.Legs.{any_leg, both_legs, each_leg, has_leg, id, intermediation_in, leg, no_intermediation}
pub use Rattle.rows.specs.Trades.{alike, allocation, at_side, both_confirmed, cancelled, captured, is_cancelled, is_numbered, marked, no_trade, number, numbered, numbered_in, party, trade_in}
pub use Rattle.rows.specs.declared.row.Allocation.{Allocation}
pub use Rattle.rows.specs.declared.row.AllocationState.{AllocationState}
pub use Rattle.rows.specs.declared.row.AllocationState.TheVariants.{Confirmed, Empty}
pub use Rattle.rows.specs.declared.row.KeptEntry.{KeptEntry}
pub use Rattle.rows.specs.declared.row.Trade.{Trade}
pub use Rattle.chains.specs.Following.{Beyond, a_trade, broken, by_intermediation, by_tie, last_of, nothing, onto, onward, tie_in, tie_of, tied_back, together}
unfoldable pub use Rattle.chains.specs.Following.{beyond, chain, way}
pub use Rattle.chains.specs.Paired.{Paired}
unfoldable pub use Rattle.chains.specs.Pairing.{matched}
pub use Rattle.book.specs.Effects.{called_off, excluded_by}
unfoldable pub use Rattle.book.specs.Effects.{excluded, placed}
pub use Rattle.book.specs.Entries.{entries_of, included, intermediated, kept_entry, no_account, shown, whole_entry}
unfoldable pub use Rattle.book.specs.Fields.{fields_verdict}
pub use Rattle.book.specs.Joining.{apart_in, numbers_in, short_in}
pub use Rattle.book.specs.Numbering.{all_numbered, by_selic, chain_confirmed, chain_matches, confirms_in, if_all_confirmed, issuer, new_pairs, reply, with_numbers, written}
unfoldable pub use Rattle.book.specs.Numbering.{completed, effect, numbering}
pub use Rattle.book.specs.Runs.{Beginning, Call, Event, History, Run, begun, event, rows_named, stepped}
unfoldable pub use Rattle.book.specs.Runs.{ran}
pub use Rattle.book.specs.State.{State, at_trade, chain_of, intermediation, trade, with_intermediations}
pub use Rattle.book.specs.Steps.{outcome}
unfoldable pub use Rattle.book.specs.Steps.{step}
pub use Rattle.book.specs.Tests.{in_turn, only_if}
pub use Rattle.book.specs.Verdicts.{each_leg_verdict}
unfoldable pub use Rattle.book.specs.Verdicts.{account_verdict, capture_verdict, completed_verdict, empty_verdict, entries_verdict, entry_verdict, id_verdict, inclusion_verdict, intermediary_verdict, intermediation_verdict, leg_tied_verdict, leg_verdict, legs_verdict, numbers_verdict, on_side_verdict, own_verdict, side_verdict, sides_verdict, tables_verdict, ties_verdict, trade_verdict, two_legs_verdict, unnumbered_verdict, verdict}
pub use Rattle.law.specs.Law.{Agrees, AllConfirmed, Chain, Chains, Entitled, Holder, Link, Linked, NoneTwice, Pairs, Sides, as_plain, begun_for, final, pairs_of}
pub use Rattle.law.specs.Plain.{Filling, Plain, PlainTrade, all_gone, closes, empties, fed, filled_as, filling_entries, fills, gone, holds_side, is_side, leaves, names, plain_number, put, side_now, terms_in, touch, touched}
unfoldable pub use Rattle.law.specs.Plain.{given, last_filling, plain, written_since}
