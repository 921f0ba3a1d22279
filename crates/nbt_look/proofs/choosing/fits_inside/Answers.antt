use Rattle.nbt_look.proofs.choosing.fits_inside.Goals as goal

pub returns : goal.returns
returns c = record {
  heard = c.in_ok-heard.heard;
  hears = rw c.as_slice.ensures at c.in_ok-heard.ensures;
  heading = c.heading_of-heading.result;
  begins = c.heading_of-heading.ensures;
  agrees = c.fits.ensures;
}
