-- Along the extension headers of a packet: what one turn of a loop adds.
use Rattle.std.proofs.Common.{◌≡◌, ℕ, zero, suc, ◌+◌, ◌<◌, ◌≤◌, true, false, List, length, Some, None, Result, Ok, Err, sym, arith}
use Rattle.nb_frames.specs.declared.carried.Place.{Place}
use Rattle.nb_frames.specs.declared.ipv6_reading.Upper.{Upper}
use Rattle.nb_frames.specs.declared.reason.Reason.{Reason}
use Rattle.nb_frames.specs.declared.reason.Reason.TheVariants.{Bad, Cut}
use Rattle.nb_frames.specs.Fields.{byte_at}
use Rattle.nb_frames.proofs.TagsLemmas.{before, not_before}
use Rattle.nb_frames.specs.Ipv6.{is_extension, extent, place_6, placed, leads_within}

-- from the header of this number on, which begins there, they lead to this
pub record IsLed (packet : List ℕ) (wire number at : ℕ) (answer : Result Upper Reason) : Type 0 where
  pub fuel : ℕ
  pub enough : length packet ≤ at + fuel
  pub rest : leads_within (suc fuel) packet wire number at ≡ answer

pub led_here : (packet : List ℕ) (wire number at : ℕ) (answer : Result Upper Reason) → IsLed packet wire number at answer → is_extension number ≡ false
    → Ok (record { protocol = number; at = at; place = None }) ≡ answer
led_here packet wire number at answer led none = rw none at led.rest

pub led_past : (packet : List ℕ) (wire number at end : ℕ) (answer : Result Upper Reason) → IsLed packet wire number at answer → is_extension number ≡ true
    → end ≡ at + extent packet number at → wire < end → Err Bad ≡ answer
led_past packet wire number at end answer led is size past = rw (is, before wire (at + extent packet number at) (omega (arith, size, past))) at led.rest

pub led_to_cut : (packet : List ℕ) (wire number at end : ℕ) (answer : Result Upper Reason) → IsLed packet wire number at answer → is_extension number ≡ true
    → end ≡ at + extent packet number at → end ≤ wire → length packet < end → Err Cut ≡ answer
led_to_cut packet wire number at end answer led is size fits cut =
    rw (is, not_before wire (at + extent packet number at) (omega (arith, size, fits)), before (length packet) (at + extent packet number at) (omega (arith, size, cut)))
    at led.rest

-- a whole extension header
led_whole : (packet : List ℕ) (wire number at end : ℕ) (answer : Result Upper Reason) (led : IsLed packet wire number at answer) → is_extension number ≡ true
    → end ≡ at + extent packet number at → end ≤ wire → end ≤ length packet
    → placed (place_6 packet number at) (byte_at packet at) end (leads_within led.fuel packet wire (byte_at packet at) end) ≡ answer
led_whole packet wire number at end answer led is size fits there =
    rw (size) (rw (is, not_before wire (at + extent packet number at) (omega (arith, size, fits)), not_before (length packet) (at + extent packet number at) (omega (arith, size, there)))
    at led.rest)

pub led_fragment : (packet : List ℕ) (wire number at end : ℕ) (answer : Result Upper Reason) (place : Place) → IsLed packet wire number at answer
    → is_extension number ≡ true → end ≡ at + extent packet number at → end ≤ wire → end ≤ length packet → Some place ≡ place_6 packet number at
    → Ok (record { protocol = byte_at packet at; at = end; place = Some place }) ≡ answer
led_fragment packet wire number at end answer place led is size fits there same =
    rw (sym same) at (led_whole packet wire number at end answer led is size fits there)

led_from : (fuel : ℕ) (packet : List ℕ) (wire number at : ℕ) (answer : Result Upper Reason) → length packet < at + fuel → at ≤ length packet
    → leads_within fuel packet wire number at ≡ answer → IsLed packet wire number at answer
led_from zero packet wire number at answer enough there rest = absurd (omega (arith, enough, there))
led_from (suc fuel) packet wire number at answer enough there rest = record { fuel = fuel; enough = omega (arith, enough); rest = rest }

pub led_on : (packet : List ℕ) (wire number at end : ℕ) (answer : Result Upper Reason) → IsLed packet wire number at answer
    → is_extension number ≡ true → end ≡ at + extent packet number at → 8 ≤ extent packet number at → end ≤ wire → end ≤ length packet
    → None ≡ place_6 packet number at → IsLed packet wire (byte_at packet at) end answer
led_on packet wire number at end answer led is size some fits there none =
    led_from led.fuel packet wire (byte_at packet at) end answer (omega (arith, led.enough, size, some)) there
    (rw (sym none) at (led_whole packet wire number at end answer led is size fits there))
