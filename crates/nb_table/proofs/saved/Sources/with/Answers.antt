use Rattle.nb_table.proofs.Common.{◌≡◌, ◌&&◌, ◌∙◌, sym, ap, nat_lt}
use Rattle.nb_table.proofs.SavedReading.LoadLemmas.{room_is, sources_turn}
use Rattle.nb_table.proofs.saved.Sources.with.Goals.{then-self, else-self}
use Rattle.nb_table.proofs.saved.Sources.with.Goals as goal

pub returns : goal.returns
returns c ks so after =
    let few : c.if-self.result ≡ (c.args.self.are_few && nat_lt 0 c.room_for-room.result) = elim c.if-self.branch [
      | then-self w ↦ w.result-is ∙ sym (ap (λ b. b && nat_lt 0 c.room_for-room.result) w.if-self.true)
      | else-self w ↦ w.result-is ∙ w.if-self.false ∙ sym (ap (λ b. b && nat_lt 0 c.room_for-room.result) w.if-self.false)
    ] in
    sources_turn c.args.most ks c.args.before c.args.key c.args.self (record { are_few = c.if-self.result; room = c.saturating_sub.result }) c.room_for-room.result so after
    (room_is c.args.most ks c.args.before c.args.key c.args.self c.room_for-room.result so after c.room_for-room.ensures) few c.saturating_sub.ensures
