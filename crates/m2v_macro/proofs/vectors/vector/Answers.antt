use Rattle.std.proofs.Common.{refl, [], ◌∷◌}
use Rattle.m2v_macro.proofs.Components.{passed, passed_dm}
use Rattle.m2v_macro.proofs.vectors.vector.Goals as goal

pub returns-clause-selected : goal.returns-clause-selected
returns-clause-selected c =
    let x = c.in_ok-x.ensures.within in
    let y = c.in_ok-y.ensures.within in
    let dm_x = c.in_ok-dm_x.ensures.within in
    let dm_y = c.in_ok-dm_y.ensures.within in
    rw (passed _ _ c.requires.scales.horizontal.1 x, passed _ _ c.requires.scales.vertical.1 y, passed_dm _ dm_x, passed_dm _ dm_y)
    (record {
      vector = record { horizontal = x; vertical = y };
      half = c.in_ok-y.ensures.half;
      dm = λ dual. (dm_x, dm_y);
      no_dm = λ e i. c.in_ok-dm_x.ensures.none e i ∷ c.in_ok-dm_y.ensures.none e i ∷ [];
      no_bit = c.requires.bit;
      numbers = refl;
      dm_numbers = refl;
    })
