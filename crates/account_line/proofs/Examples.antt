-- Lines, and what they say.
use Rattle.std.proofs.Common.{◌≡◌, true, false, [], ◌∷◌, Ok, Err, codes, refl}
use Rattle.fields.specs.declared.account.AccountType.TheVariants.{SL, C1}
use Rattle.fields.specs.declared.account.Status.TheVariants.{Active, Blocked}
use Rattle.fields.specs.declared.ground.Ground.TheVariants.{BadField, FieldCount}
use Rattle.text.specs.Groups.{party_group}
use Rattle.text.specs.Reading.{refusal}
use Rattle.account_line.specs.Line.{account}

one_tie : account (codes "11,SL,A,50,S,1,1,7") ≡ Ok record {
  account = record { code = 11; class = SL; status = Active; day = 50; markets = record { selic = true; deposited = false; registered = false } };
  tie_count = 1;
  ties = record { participant = 1; offeror = 7 } ∷ party_group.blank ∷ party_group.blank ∷ party_group.blank ∷ [];
}
one_tie = refl

same_tie_twice : account (codes "99999999,C1,B,99999,DR,2,1,65535,1,65535") ≡ Ok record {
  account = record { code = 99999999; class = C1; status = Blocked; day = 99999; markets = record { selic = false; deposited = true; registered = true } };
  tie_count = 2;
  ties = record { participant = 1; offeror = 65535 } ∷ record { participant = 1; offeror = 65535 } ∷ party_group.blank ∷ party_group.blank ∷ [];
}
same_tie_twice = refl

empty_line : account [] ≡ Err (refusal BadField 1)
empty_line = refl

leading_zero : account (codes "011,SL,A,50,S,1,1,7") ≡ Err (refusal BadField 1)
leading_zero = refl

code_too_great : account (codes "100000000,SL,A,50,S,1,1,7") ≡ Err (refusal BadField 1)
code_too_great = refl

no_such_type : account (codes "11,C3,A,50,S,1,1,7") ≡ Err (refusal BadField 2)
no_such_type = refl

no_such_status : account (codes "11,SL,H,50,S,1,1,7") ≡ Err (refusal BadField 3)
no_such_status = refl

no_markets : account (codes "11,SL,A,50,,1,1,7") ≡ Err (refusal BadField 5)
no_markets = refl

markets_out_of_order : account (codes "11,SL,A,50,DS,1,1,7") ≡ Err (refusal BadField 5)
markets_out_of_order = refl

market_twice : account (codes "11,SL,A,50,SS,1,1,7") ≡ Err (refusal BadField 5)
market_twice = refl

five_ties : account (codes "11,SL,A,50,S,5,1,7,1,7,1,7,1,7,1,7") ≡ Err (refusal BadField 6)
five_ties = refl

tie_missing : account (codes "11,SL,A,50,S,2,1,7") ≡ Err (refusal FieldCount 9)
tie_missing = refl

tie_too_many : account (codes "11,SL,A,50,SDR,1,1,7,1,7") ≡ Err (refusal FieldCount 9)
tie_too_many = refl

offeror_too_great : account (codes "11,SL,A,50,S,1,1,65536") ≡ Err (refusal BadField 8)
offeror_too_great = refl
