use Rattle.std.proofs.Common.{◌≡◌, ◌∙◌, refl, ap, subst}
use Rattle.std.proofs.lemmas.Result.{IfOk-weaker}
use Rattle.nb_fragments.specs.declared.taken.Taken.TheVariants.{Whole, Kept, Again, Disagrees, LeftOut}
use Rattle.nb_frames.specs.Carried.{carried_joined}
use Rattle.nb_frames.specs.Payload.{whole}
use Rattle.nb_frames.specs.declared.carried.Carried.{Carried}
use Rattle.nb_traffic.specs.Brings.{BringsPacket}
use Rattle.nb_traffic.specs.Brought.{Fragment, NoFragment, brought_value}
use Rattle.nb_traffic.specs.declared.brought.FragmentFault.TheVariants as fault
use Rattle.nb_traffic.proofs.TakeLemmas.{brings_by}
use Rattle.nb_traffic.proofs.traffic.Traffic.join.Goals as goal

pub returns-in-Whole : goal.returns-in-Whole
returns-in-Whole c =
    let f = c.args.fragment.now in
    let carried : c.carried_by_joined-carried.result ≡ carried_joined f.hosts f.protocol (whole c.in-Whole.bytes) =
    c.carried_by_joined-carried.ensures ∙ ap (λ p. carried_joined f.hosts f.protocol p) (c.whole-body.ensures ∙ ap whole c.as_slice.ensures) in
    IfOk-weaker c.bring.result _ _ (λ brought brings. brings_by c.args.self.now _ f c.args.time c.in_ok-bytes.field-0 (Whole c.in-Whole.bytes) c.take.result (brought_value brought) c.in_ok-bytes.was c.take.ensures.clock
    c.in_ok-bytes.ensures.live c.in_ok-bytes.ensures.answer c.take.ensures.full c.take.ensures.lost c.in-Whole.is
    (subst (λ (k : Carried). BringsPacket k c.args.self.now.connections (brought_value brought) c.bring.new.connections) carried brings)) c.bring.ensures

pub returns-in-Kept : goal.returns-in-Kept
returns-in-Kept c = brings_by c.args.self.now _ c.args.fragment.now c.args.time c.in_ok-bytes.field-0 Kept c.take.result Fragment c.in_ok-bytes.was c.take.ensures.clock
    c.in_ok-bytes.ensures.live c.in_ok-bytes.ensures.answer c.take.ensures.full c.take.ensures.lost c.in-Kept.is (refl, refl)

pub returns-in-Again : goal.returns-in-Again
returns-in-Again c = brings_by c.args.self.now _ c.args.fragment.now c.args.time c.in_ok-bytes.field-0 Again c.take.result Fragment c.in_ok-bytes.was c.take.ensures.clock
    c.in_ok-bytes.ensures.live c.in_ok-bytes.ensures.answer c.take.ensures.full c.take.ensures.lost c.in-Again.is (refl, refl)

pub returns-in-Disagrees : goal.returns-in-Disagrees
returns-in-Disagrees c = brings_by c.args.self.now _ c.args.fragment.now c.args.time c.in_ok-bytes.field-0 Disagrees c.take.result (NoFragment c.args.fragment.now.hosts fault.Disagrees) c.in_ok-bytes.was c.take.ensures.clock
    c.in_ok-bytes.ensures.live c.in_ok-bytes.ensures.answer c.take.ensures.full c.take.ensures.lost c.in-Disagrees.is (refl, refl)

pub returns-in-LeftOut : goal.returns-in-LeftOut
returns-in-LeftOut c = brings_by c.args.self.now _ c.args.fragment.now c.args.time c.in_ok-bytes.field-0 (LeftOut c.in-LeftOut.why) c.take.result (NoFragment c.args.fragment.now.hosts c.fault_of.result) c.in_ok-bytes.was c.take.ensures.clock
    c.in_ok-bytes.ensures.live c.in_ok-bytes.ensures.answer c.take.ensures.full c.take.ensures.lost c.in-LeftOut.is (ap (NoFragment c.args.fragment.now.hosts) c.fault_of.ensures, refl)
