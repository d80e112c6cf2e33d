-- The second one of two groups, byte by byte, cut out of their stream.
use Rattle.m2v_model.specs.Decoding.{Decodes, events}
use Rattle.m2v_model.specs.Lawful.{Lawful}
use Rattle.m2v_law_group.specs.Groups.{cut_text}
use Rattle.m2v_law_group.specs.Chosen.{cut_frames}
use Rattle.m2v_law_group.specs.Worked.{two_groups}

-- the stream is lawful, and its second group, whose header is changed, decodes to the frame that it has in the whole
abbrev pub SecondGroup : Type 0
SecondGroup = (l : Lawful two_groups) × Decodes (cut_text two_groups 1 1) (cut_frames two_groups 1 1 (events l.tree))
