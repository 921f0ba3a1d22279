use Rattle.std.proofs.Common.{◌≤◌, length, ap, ◌∙◌, arith}
use Rattle.nb_names.proofs.PartsLemmas.{filled_array}
use Rattle.nb_names.proofs.text_reading.Collected.into_name.Goals as goal

pub returns-clause-name : goal.returns-clause-name
returns-clause-name c =
    let fits : length c.args.self.front.items ≤ 15 = omega (arith, c.as_slice.ensures.fits, ap length c.as_slice.ensures.value) in
    let front = c.copy_from_slice.ensures.after ∙ c.as_slice.ensures.value in
    rw (c.new.ensures.value, c.len.ensures.value, front) (λ i. record { bytes = filled_array c.args.self.front.items c.args.self.last fits i; scope = c.args.self.scope })
