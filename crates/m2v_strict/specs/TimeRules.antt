-- The warnings on time codes (clause 6.3.8): what a group header says of the time of its first picture.
use Rattle.std.specs.Prelude.{ℕ, ◌+◌, ◌-◌, ◌*◌, ◌/◌, ◌%◌, Bool, ◌&&◌, nat_eq, nat_le, if◌then◌else◌, [], ◌++◌, Option, Some, None}
use Rattle.m2v_model.specs.m2v_macroblock.m2v_head.declared.group.GroupInfo.{GroupInfo}
use Rattle.m2v_strict.specs.declared.element.Element.TheVariants as elements
use Rattle.m2v_strict.specs.Remarks.{Remarks, remark, judge, looked_at, at_most, lies}

-- how many pictures a time code counts in a second, by frame_rate_code (table 6-4): the rate, rounded up
unfoldable pub counted_rate : ℕ → ℕ
counted_rate code =
    if nat_le code 2 then 24
    else if nat_eq code 3 then 25
    else if nat_le code 5 then 30
    else if nat_eq code 6 then 50
    else 60

-- ---- a time code as a number of pictures since midnight

abbrev pub minutes_of : GroupInfo → ℕ
minutes_of g = 60 * g.hours + g.minutes

-- with drop_frame_flag two numbers are passed over as a minute begins, but for each tenth
unfoldable pub passed_over : Bool → ℕ → ℕ
passed_over dropping minutes = if dropping then 2 * (minutes - minutes / 10) else 0

abbrev pub pictures_of : ℕ → GroupInfo → ℕ
pictures_of rate g = (rate * (60 * minutes_of g + g.seconds) + g.pictures) - passed_over g.drop (minutes_of g)

-- the pictures of a day
abbrev pub day_of : ℕ → Bool → ℕ
day_of rate dropping = 86400 * rate - passed_over dropping 1440

-- from one time code to another, modulo a day
abbrev pub time_between : ℕ → GroupInfo → GroupInfo → ℕ
time_between rate last g =
    let day = day_of rate g.drop in
    (pictures_of rate g + (day - pictures_of rate last % day)) % day

-- ---- 55

-- the pictures of a time code are below the rate
unfoldable pub pictures_warning : ℕ → GroupInfo → Remarks
pictures_warning rate g = at_most 55 elements.TimeCodePictures g.pictures (rate - 1)

-- a group begins where the one before it ends, which is shown for so many fields: a picture more or less is granted
abbrev pub goes_on : ℕ → ℕ → Bool
goes_on pictures fields = nat_le (2 * pictures) (fields + 2) && nat_le fields (2 * pictures + 2)

unfoldable pub continuity_warning : ℕ → Option GroupInfo → ℕ → GroupInfo → Remarks
continuity_warning rate None fields g = []
continuity_warning rate (Some last) fields g =
    let pictures = time_between rate last g in
    judge (goes_on pictures fields) (remark 55 elements.TimeCode pictures (fields / 2))

-- in turn, of a group header in a sequence of this frame_rate_code, behind the last one and the fields of its group
unfoldable pub time_warnings : ℕ → Option GroupInfo → ℕ → GroupInfo → Remarks
time_warnings code last fields g =
    looked_at (lies 1 8 code) (pictures_warning (counted_rate code) g ++ continuity_warning (counted_rate code) last fields g)
