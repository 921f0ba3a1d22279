use Rattle.std.proofs.Common.{◌≡◌, ◌+◌, ℕ, true, false, length, ap, refl, arith}
use Rattle.nb_frames.specs.Ipv6.{is_extension}
use Rattle.nb_frames.proofs.HeaderLemmas.{led_here, led_past, led_to_cut, led_fragment, led_on}
use Rattle.nb_frames.proofs.ipv6_reading.upper_of.Goals as goal

pub headers-init : goal.headers-init
headers-init c = record {
  led = record { fuel = length c.args.packet.now; enough = omega arith; rest = refl };
  there = c.requires.there;
  within = c.requires.within;
}

pub returns-then-wire-end-clause-leads : goal.returns-then-wire-end-clause-leads
returns-then-wire-end-clause-leads c =
    let is : is_extension c.headers.number ≡ true = cc in
    led_past _ _ _ _ _ _ c.headers.invariant.led is (ap (λ (n : ℕ). c.headers.at + n) c.extent.ensures.value) c.if-wire-end.true

pub returns-then-packet-end-clause-leads : goal.returns-then-packet-end-clause-leads
returns-then-packet-end-clause-leads c =
    let is : is_extension c.headers.number ≡ true = cc in
    led_to_cut _ _ _ _ _ _ c.headers.invariant.led is (ap (λ (n : ℕ). c.headers.at + n) c.extent.ensures.value) c.if-wire-end.false c.if-packet-end.true

pub returns-in-Some-clause-leads : goal.returns-in-Some-clause-leads
returns-in-Some-clause-leads c =
    let is : is_extension c.headers.number ≡ true = cc in
    led_fragment _ _ _ _ _ _ _ c.headers.invariant.led is (ap (λ (n : ℕ). c.headers.at + n) c.extent.ensures.value) c.if-wire-end.false c.if-packet-end.false c.in-Some.ensures

pub headers-preserved : goal.headers-preserved
headers-preserved c =
    let is : is_extension c.headers.number ≡ true = cc in
    let size = ap (λ (n : ℕ). c.headers.at + n) c.extent.ensures.value in
    record {
      led = led_on _ _ _ _ _ _ c.headers.invariant.led is size (omega (arith, c.extent.ensures.value, c.extent.ensures.some)) c.if-wire-end.false c.if-packet-end.false
          c.in_default.ensures;
      there = c.if-packet-end.false;
      within = c.if-wire-end.false;
    }

pub returns-clause-leads : goal.returns-clause-leads
returns-clause-leads c =
    let none : is_extension c.headers.number ≡ false = cc in
    led_here _ _ _ _ _ c.headers.invariant.led none
