use Rattle.std.proofs.Common.{◌∙◌, sym}
use Rattle.nb_survey.specs.Keys.{name_key, refusal_key}
use Rattle.nb_survey.proofs.KeepLemmas.{table_stays, table_takes}
use Rattle.nb_survey.proofs.rows.Tables.hear.Goals as goal

pub returns-in_default-clause-heard : goal.returns-in_default-clause-heard
returns-in_default-clause-heard c = (
  table_takes name_key c.args.self.now.names c.hear.new.self c.name_key.result c.args.said.now c.in_ok-is_named.is_named c.name_key.ensures c.in_ok-is_named.ensures.heard,
  table_stays refusal_key c.args.self.now.refusals c.args.said.now c.in_ok-is_named.is_named (sym c.in_default.is ∙ c.refusal_key.ensures),
)

pub returns-then-is_named-clause-heard : goal.returns-then-is_named-clause-heard
returns-then-is_named-clause-heard c =
    let s = c.args.said.now in
    let named = table_takes name_key c.args.self.now.names c.hear.new.self c.name_key.result s c.in_ok-is_named.is_named c.name_key.ensures c.in_ok-is_named.ensures.heard in (
      record { takes = λ room. named.takes c.if-is_named.true; stays = named.stays },
      table_takes refusal_key c.args.self.now.refusals c.hear-2.new.self c.in-Some.key s c.in_ok-is_refused.is_refused (sym c.in-Some.is ∙ c.refusal_key.ensures) c.in_ok-is_refused.ensures.heard,
    )

pub returns-in_default-clause-room : goal.returns-in_default-clause-room
returns-in_default-clause-room c = λ has.
    (record { names = c.hear.ensures.grows has.names; refusals = has.refusals }, c.in_ok-is_named.ensures.room has.names)

pub returns-then-is_named-clause-room : goal.returns-then-is_named-clause-room
returns-then-is_named-clause-room c = λ has.
    (record { names = c.hear.ensures.grows has.names; refusals = c.hear-2.ensures.grows has.refusals }, c.in_ok-is_refused.ensures.room has.refusals)
