-- Which of two issuers numbers a chain: one for the Selic command numbers, one for the control numbers.
use Rattle.fields.specs.declared.trade.Kind.{Kind}
use Rattle.fields.specs.declared.trade.Kind.TheVariants.{Selic, Deposited, Registered}

-- what belongs to the Selic issuer for a Selic title, and what belongs to the control issuer for the other kinds
abbrev pub for_kind : {X : Type 0} → Kind → X → X → X
for_kind Selic selic control = selic
for_kind Deposited selic control = control
for_kind Registered selic control = control
