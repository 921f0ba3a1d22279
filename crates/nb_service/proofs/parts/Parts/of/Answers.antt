use Rattle.std.proofs.Common.{arith, ap, ◌∙◌, ◌*◌}
use Rattle.nb_service.specs.Parts.{flat-parts, length-parts, whole_parts}
use Rattle.nb_service.proofs.parts.Parts.of.Goals as goal

pub returns-clause-bytes : goal.returns-clause-bytes
returns-clause-bytes g c =
    flat-parts g.P.Part.LENGTH g.P.Part.read g.P.Part.written _ c.args.bytes.now g.met.P.Part.given_back (whole_parts _ _ c.requires)
    (λ i. omega (arith, c.type_inv.bytes i))

pub returns-clause-count : goal.returns-clause-count
returns-clause-count g c =
    ap (λ n. g.P.Part.LENGTH * n) (length-parts g.P.Part.LENGTH g.P.Part.read _ c.args.bytes.now) ∙ whole_parts _ _ c.requires
