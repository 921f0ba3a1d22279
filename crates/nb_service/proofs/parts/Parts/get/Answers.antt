use Rattle.std.proofs.Common.{◌≡◌, ◌+◌, ◌-◌, ◌*◌, Some, ap, sym, refl, ◌∙◌, arith}
use Rattle.nb_service.specs.Parts.{get-parts, get_past-parts}
use Rattle.nb_service.proofs.parts.Parts.get.Goals as goal

pub returns-then-place-self : goal.returns-then-place-self
returns-then-place-self g c =
    rw (← c.self.view_is) (sym (get_past-parts g.P.Part.LENGTH g.P.Part.read _ c.args.place c.self.inside.bytes.now (rw (← c.LENGTH-size.ensures) c.if-place-self.true)))

pub returns : goal.returns
returns g c =
    let few : c.LENGTH-size.result * c.args.place + c.LENGTH-size.result - c.LENGTH-size.result * c.args.place ≡ g.P.Part.LENGTH =
    omega (arith, c.LENGTH-size.ensures) in
    rw (← c.self.view_is)
    (ap Some (c.of_bytes.ensures ∙ rw (few, c.LENGTH-size.ensures) refl)
    ∙ sym (get-parts g.P.Part.LENGTH g.P.Part.read _ c.args.place c.self.inside.bytes.now (rw (← c.LENGTH-size.ensures) c.if-place-self.false)))
