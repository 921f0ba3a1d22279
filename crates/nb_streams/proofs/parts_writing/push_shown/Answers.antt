use Rattle.std.proofs.Common.{List, ℕ, string_bytes, ◌++◌, ap, ◌∙◌}
use Rattle.nb_streams.proofs.PushingLemmas.{shown_is}
use Rattle.nb_streams.proofs.parts_writing.push_shown.Goals as goal

pub returns-in_ok-push_str-in-Ok-clause-added : goal.returns-in_ok-push_str-in-Ok-clause-added
returns-in_ok-push_str-in-Ok-clause-added g c =
    shown_is _ c.new-room.result c.show.new.room (string_bytes c.args.text.now) _ c.in-Ok.ensures c.new-room.ensures
    (c.in_ok-push_str-in-Ok.ensures.bytes ∙ ap (λ (t : List ℕ). string_bytes c.args.text.now ++ t) c.as_str.ensures.value)
