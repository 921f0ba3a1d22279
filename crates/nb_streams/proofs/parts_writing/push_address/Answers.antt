use Rattle.std.proofs.Common.{◌++◌, List, ℕ, [], slice_index, string_bytes, refl, ◌∙◌, ap, arith}
use Rattle.std.proofs.lemmas.Result.{on_ok_weaker}
use Rattle.nb_streams.proofs.PushingLemmas.{address_is_ascii, address_is_put, number_is_short}
use Rattle.nb_streams.proofs.parts_writing.push_address.Goals as goal

pub write_digits-start-requires : goal.write_digits-start-requires
write_digits-start-requires c =
    let short = number_is_short c.from.result (rw c.from.ensures c.element_fits.fits) in
    let third = c.put_dotted-third.ensures in
    let second = c.put_dotted-second.ensures in
    let first = c.put_dotted-first.ensures in
    (omega (arith, short, third.start, second.start, first.start), omega (arith, third.same, second.same, first.same, third.before, second.before, first.before))

pub push_ascii-requires : goal.push_ascii-requires
push_ascii-requires c =
    let a = c.args.address in
    let w = c.write_digits-start in
    let put =
    address_is_put (slice_index a 0) (slice_index a 1) (slice_index a 2) (slice_index a 3) w.result c.put_dotted-first.result c.put_dotted-second.result c.put_dotted-third.result
    [] w.new.buf c.put_dotted-first.new.room c.put_dotted-second.new.room c.put_dotted-third.new.room
    refl (omega arith) c.put_dotted-third.ensures.put c.put_dotted-second.ensures.put c.put_dotted-first.ensures.put
    (rw c.from.ensures at w.ensures.written) in
    rw put (address_is_ascii (slice_index a 0) (slice_index a 1) (slice_index a 2) (slice_index a 3) c.element_fits.fits c.element_fits2.fits c.element_fits3.fits c.element_fits4.fits)

pub returns-clause-added : goal.returns-clause-added
returns-clause-added c =
    let a = c.args.address in
    let w = c.write_digits-start in
    let put =
    address_is_put (slice_index a 0) (slice_index a 1) (slice_index a 2) (slice_index a 3) w.result c.put_dotted-first.result c.put_dotted-second.result c.put_dotted-third.result
    [] w.new.buf c.put_dotted-first.new.room c.put_dotted-second.new.room c.put_dotted-third.new.room
    refl (omega arith) c.put_dotted-third.ensures.put c.put_dotted-second.ensures.put c.put_dotted-first.ensures.put
    (rw c.from.ensures at w.ensures.written) in
    on_ok_weaker c.push_ascii.result (λ added. added ∙ ap (λ (text : List ℕ). string_bytes c.args.text.now ++ text) put) c.push_ascii.ensures.added
