-- Kinds of commands: a column, a precharge, and what needs closed banks, are none of the others.
use Rattle.std.proofs.Common.{◌≡◌, ◌∙◌, ℕ, inl, inr, true, false, refl, sym, ap, subst}
use Rattle.command_words.specs.declared.geometry.Place.{Place}
use Rattle.command_words.specs.declared.command.Command.{Command}
use Rattle.command_words.specs.declared.command.Command.TheVariants.{Rd, Wr, PrePb, PreSb, PreAb, RefAb, RefSb, RfmAb, RfmSb, Mrw, Ecs}
use Rattle.command_words.specs.Kinds.{Closes, effect, is_act, is_precharge, needs_closed}
use Rattle.speed_bin.proofs.Effects.{closes_precharge}
use Rattle.requests.specs.declared.request.Kind.{Kind}
use Rattle.requests.specs.declared.request.Kind.TheVariants.{Read, Write}
use Rattle.requests.specs.Choice.{column_for}
use Rattle.requests.specs.Owed.{is_column}
use Rattle.requests.proofs.Owed.{IsColumnOf}

-- ---- A column

-- the column of a request is one of the bank of its place
column_for_bank : (kind : Kind) (place : Place) → IsColumnOf (column_for kind place) place.bank
column_for_bank Read place = (place.column, inl refl)
column_for_bank Write place = (place.column, inr refl)

column_for_column : (kind : Kind) (place : Place) → is_column (column_for kind place) ≡ true
column_for_column Read place = refl
column_for_column Write place = refl

pub column_of : (command : Command) (kind : Kind) (place : Place) → command ≡ column_for kind place → IsColumnOf command place.bank
column_of command kind place e = subst (λ (c : Command). IsColumnOf c place.bank) (sym e) (column_for_bank kind place)

pub column_is_column : (command : Command) (kind : Kind) (place : Place) → command ≡ column_for kind place → is_column command ≡ true
column_is_column command kind place e = ap (λ (c : Command). is_column c) e ∙ column_for_column kind place

pub column_not_act : (command : Command) → is_column command ≡ true → is_act command ≡ false
column_not_act (Rd bank column) h = refl
column_not_act (Wr bank column) h = refl
column_not_act _ h = absurd (cc)

pub column_needs_nothing : (command : Command) → is_column command ≡ true → needs_closed command ≡ false
column_needs_nothing (Rd bank column) h = refl
column_needs_nothing (Wr bank column) h = refl
column_needs_nothing _ h = absurd (cc)

pub column_closes_nothing : (command : Command) (b : ℕ) → is_column command ≡ true → effect b command ≡ Closes → ⊥
column_closes_nothing (Rd bank column) b h e = cc
column_closes_nothing (Wr bank column) b h e = cc
column_closes_nothing _ b h e = absurd (cc)

-- ---- A precharge

pub precharge_not_act : (command : Command) → is_precharge command ≡ true → is_act command ≡ false
precharge_not_act (PrePb bank) h = refl
precharge_not_act (PreSb address) h = refl
precharge_not_act PreAb h = refl
precharge_not_act _ h = absurd (cc)

pub precharge_no_column : (command : Command) → is_precharge command ≡ true → is_column command ≡ false
precharge_no_column (PrePb bank) h = refl
precharge_no_column (PreSb address) h = refl
precharge_no_column PreAb h = refl
precharge_no_column _ h = absurd (cc)

pub precharge_needs_nothing : (command : Command) → is_precharge command ≡ true → needs_closed command ≡ false
precharge_needs_nothing (PrePb bank) h = refl
precharge_needs_nothing (PreSb address) h = refl
precharge_needs_nothing PreAb h = refl
precharge_needs_nothing _ h = absurd (cc)

-- ---- What needs closed banks

pub closed_not_act : (command : Command) → needs_closed command ≡ true → is_act command ≡ false
closed_not_act RefAb h = refl
closed_not_act (RefSb address) h = refl
closed_not_act RfmAb h = refl
closed_not_act (RfmSb address) h = refl
closed_not_act Ecs h = refl
closed_not_act (Mrw write) h = refl
closed_not_act _ h = absurd (cc)

pub closed_no_column : (command : Command) → needs_closed command ≡ true → is_column command ≡ false
closed_no_column RefAb h = refl
closed_no_column (RefSb address) h = refl
closed_no_column RfmAb h = refl
closed_no_column (RfmSb address) h = refl
closed_no_column Ecs h = refl
closed_no_column (Mrw write) h = refl
closed_no_column _ h = absurd (cc)

pub closed_not_precharge : (command : Command) → needs_closed command ≡ true → is_precharge command ≡ false
closed_not_precharge RefAb h = refl
closed_not_precharge (RefSb address) h = refl
closed_not_precharge RfmAb h = refl
closed_not_precharge (RfmSb address) h = refl
closed_not_precharge Ecs h = refl
closed_not_precharge (Mrw write) h = refl
closed_not_precharge _ h = absurd (cc)

pub closed_closes_nothing : (command : Command) (b : ℕ) → needs_closed command ≡ true → effect b command ≡ Closes → ⊥
closed_closes_nothing command b h e = let k = (closes_precharge b command e).0 in let n : true ≡ false = sym k ∙ closed_not_precharge command h in cc
