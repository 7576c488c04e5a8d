-- Texts, and what they mean.
use Rattle.std.proofs.Common.{◌≡◌, ℕ, true, false, List, [], ◌∷◌, ◌++◌, map, Some, None, codes, refl}
use Rattle.register.specs.Meaning.{code_of, account_in, tied_in}
use Rattle.fields.specs.declared.account.AccountType.TheVariants.{SL}
use Rattle.fields.specs.declared.account.Status.TheVariants.{Active}
use Rattle.account_text.specs.Texts.{text_means}

-- a bad line of 12, a good one of 11, a bad and a good one of 12, another of 11 without its end
abbrev text : List ℕ
text =
    codes "12,SL,A,50,S,1,2\n"
    ++ codes "11,SL,A,50,S,1,1,7\n"
    ++ codes "\n"
    ++ codes "12,SL,A,60,S,2,2,8,3,9\n"
    ++ codes "11,SL,B,70,S,1,4,4"

codes_in_order : map code_of (text_means text) ≡ 11 ∷ 12 ∷ []
codes_in_order = refl

first_good_line_counts : account_in (text_means text) 11 ≡ Some record { code = 11; class = SL; status = Active; day = 50; markets = record { selic = true; deposited = false; registered = false } }
first_good_line_counts = refl

bad_line_hides_nothing : account_in (text_means text) 12 ≡ Some record { code = 12; class = SL; status = Active; day = 60; markets = record { selic = true; deposited = false; registered = false } }
bad_line_hides_nothing = refl

unlisted : account_in (text_means text) 13 ≡ None
unlisted = refl

second_tie : tied_in (text_means text) 12 record { participant = 3; offeror = 9 } ≡ true
second_tie = refl

tie_of_another : tied_in (text_means text) 11 record { participant = 3; offeror = 9 } ≡ false
tie_of_another = refl

tie_of_later_line : tied_in (text_means text) 11 record { participant = 4; offeror = 4 } ≡ false
tie_of_later_line = refl

nothing : text_means [] ≡ []
nothing = refl
