use Rattle.std.proofs.Common.{◌≡◌, ◌+◌, ◌*◌, ◌≤◌, ◌++◌}
use Rattle.arrayvec.specs.ArrayVec.{array_vec_len}
use Rattle.nb_frames.specs.declared.limits.TheConstants.{MAX_TAGS}
use Rattle.nb_frames.specs.Tags.{network_at, vlans_at}
use Rattle.nb_frames.proofs.tags.layer_after.Given as goal

abbrev pub invariant-tags : goal.invariant-tags
invariant-tags l = record {
  vlans : l.vlans.items ++ vlans_at l.most l.frame l.place.at l.place.next ≡ vlans_at MAX_TAGS l.frame l.fn.place.at l.fn.place.next;
  network : network_at l.most l.frame l.place.at l.place.next ≡ network_at MAX_TAGS l.frame l.fn.place.at l.fn.place.next;
  room : array_vec_len l.vlans + l.most ≡ MAX_TAGS;
  before : l.place.at + 2 ≤ l.place.next;
  bounded : l.place.next + 4 * l.most ≤ 36;
}

abbrev pub decreases-tags : goal.decreases-tags
decreases-tags l = l.most
