use Rattle.nbt_packets.proofs.Common.{ap, err_from_is_err_and}
use Rattle.nbt_command.specs.Reported.{of_building}
use Rattle.nbt_packets.proofs.build.run_build.Goals as goal

pub returns-in_err-lines-clause-refused : goal.returns-in_err-lines-clause-refused
returns-in_err-lines-clause-refused g c =
    let p = err_from_is_err_and c.from_residual.result c.from_residual.ensures.1 in
    rw (p.1, p.2) (λ _ not_memory. c.in_err-lines.ensures.refused (λ memory. not_memory (ap of_building memory)))
