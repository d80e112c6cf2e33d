-- A plan by the source, and quantisers in a slice, computed by hand.
use Rattle.std.specs.Prelude.{ℕ, List, [], ◌∷◌, replicate, Some, None}
use Rattle.m2v_rate.specs.declared.raising.SliceSoFar.{SliceSoFar}
use Rattle.m2v_rate.specs.Sharing.{Outlook, needs, pool, reserve, quantiser, target, most, raised}

-- ---- a plan

-- a group of ten pictures, the sixth of which is planned; an I and a P picture are known, and no B picture
abbrev pub group : Outlook
group = record {
  kinds = 1 ∷ 2 ∷ 3 ∷ 3 ∷ 2 ∷ 3 ∷ 3 ∷ 2 ∷ 3 ∷ 3 ∷ [];
  activities = 38570 ∷ 34683 ∷ 17926 ∷ 18246 ∷ 32079 ∷ 17923 ∷ 17790 ∷ 36776 ∷ 18325 ∷ 18044 ∷ [];
  incomes = replicate 10 4800;
  last_i = Some (record { work = 7204; activity = 38570 });
  last_p = Some (record { work = 10890; activity = 34683 });
  last_b = None;
  mean = 20873;
  low = 10996;
  start = 24644;
}

-- its numbers: what all want and may take, the reserve, the plan
abbrev pub planned : List ℕ
planned = needs group 5 ∷ pool group 5 ∷ reserve group 5 ∷ quantiser group 5 ∷ target group 5 ∷ most group 5 ∷ []

abbrev pub wanted_plan : List ℕ
wanted_plan = 88712 ∷ 68229 ∷ 6171 ∷ 2 ∷ 2240 ∷ 4825 ∷ []

-- ---- quantisers in a slice

abbrev pub so_far : ℕ → ℕ → ℕ → ℕ → SliceSoFar
so_far work before ahead left = record { work = work; before = before; ahead = ahead; left = left }

abbrev pub coarsened : List ℕ
coarsened =
    raised 4 (so_far 1000 300 900 200)
    ∷ raised 4 (so_far 1000 300 900 2000)
    ∷ raised 4 (so_far 8000 800 400 0)
    ∷ raised 1 (so_far 0 256 256 1)
    ∷ raised 5 (so_far 400 1000 3000 239)
    ∷ raised 5 (so_far 400 1000 3000 240)
    ∷ []

abbrev pub wanted_codes : List ℕ
wanted_codes = 15 ∷ 4 ∷ 31 ∷ 1 ∷ 6 ∷ 5 ∷ []
