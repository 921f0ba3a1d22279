use Rattle.std.proofs.Common.{ap, ap₂, ◌∙◌, true}
use Rattle.clap.specs.Words.{with_rule}
use Rattle.clap.specs.Simple.{app_of_fields, on_top}
use Rattle.nbt_look.proofs.command_line.command.Goals as goal

pub returns : goal.returns
returns c =
    let top = ap app_of_fields c.version-top.ensures ∙ ap (on_top (λ s. record s { has_version = true })) c.described.ensures in
    let quiet = c.in_ok-quiet.ensures.shape c.flag.ensures.local ∙ ap₂ with_rule top c.flag.ensures.rule in
    let name = c.in_ok-name.ensures.shape c.repeated.ensures.local ∙ ap₂ with_rule quiet c.repeated.ensures.rule in
    let host = c.in_ok-host.ensures.shape c.repeated-2.ensures.local ∙ ap₂ with_rule name c.repeated-2.ensures.rule in
    let port = c.in_ok-port.ensures.shape c.port_option.ensures.local ∙ ap₂ with_rule host c.port_option.ensures.rule in
    let kind = c.in_ok-kind.ensures.shape c.repeated-3.ensures.local ∙ ap₂ with_rule port c.repeated-3.ensures.rule in
    let count = c.in_ok-count.ensures.shape c.count_option.ensures.local ∙ ap₂ with_rule kind c.count_option.ensures.rule in
    let time = c.in_ok-time.ensures.shape c.once.ensures.local ∙ ap₂ with_rule count c.once.ensures.rule in
    let colour = c.in_ok-colour.ensures.shape c.once-2.ensures.local ∙ ap₂ with_rule time c.once-2.ensures.rule in
    let json = c.in_ok-json.ensures.shape c.flag-2.ensures.local ∙ ap₂ with_rule colour c.flag-2.ensures.rule in
    let lines = c.in_ok-lines.ensures.shape c.flag-3.ensures.local ∙ ap₂ with_rule json c.flag-3.ensures.rule in
    let bare = c.in_ok-bare.ensures.shape c.flag-4.ensures.local ∙ ap₂ with_rule lines c.flag-4.ensures.rule in
    let ticks = c.in_ok-ticks.ensures.shape c.flag-5.ensures.local ∙ ap₂ with_rule bare c.flag-5.ensures.rule in
    let cut = c.in_ok-cut.ensures.shape c.flag-6.ensures.local ∙ ap₂ with_rule ticks c.flag-6.ensures.rule in
    let read = c.in_ok-read.ensures.shape c.read_option.ensures.local ∙ ap₂ with_rule cut c.read_option.ensures.rule in
    c.in_ok-whole.ensures.shape c.file_words.ensures.local ∙ ap₂ with_rule read c.file_words.ensures.rule
