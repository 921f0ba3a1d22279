use Rattle.std.proofs.Common.{◌≡◌, ◌/◌, length, rules}
use Rattle.nb_streams.proofs.HexadecimalLemmas.{decoded_into, odd_digits, put_back}
use Rattle.nb_streams.proofs.hexadecimal.digits_in.Goals as goal

pub returns-then-text-ne0 : goal.returns-then-text-ne0
returns-then-text-ne0 c = odd_digits c.args.text.now c.if-text-ne0.true

pub returns-in-Ok : goal.returns-in-Ok
returns-in-Ok c =
    let half : length c.as_mut_slice.result.now ≡ length c.args.text.now / 2 = search rules in
    let read = decoded_into c.args.text.now c.decode_to_slice.new.out _ c.decode_to_slice.result c.if-text-ne0.false half c.decode_to_slice.ensures.value in
    let all : c.resize.new.self.len ≡ length c.args.text.now / 2 = search rules in
    put_back c.args.text.now c.decode_to_slice.new.out _ c.from_vec.result c.resize.new.self.len (rw c.in-Ok.is at read) all c.from_vec.ensures

pub returns-in-Err : goal.returns-in-Err
returns-in-Err c =
    let half : length c.as_mut_slice.result.now ≡ length c.args.text.now / 2 = search rules in
    rw c.in-Err.is at (decoded_into c.args.text.now c.decode_to_slice.new.out _ c.decode_to_slice.result c.if-text-ne0.false half c.decode_to_slice.ensures.value)
