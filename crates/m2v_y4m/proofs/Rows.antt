-- Texts of which it is known what they say.
use Rattle.std.proofs.Common.{◌≡◌, [], ◌∷◌, ◌++◌, length, Some, None, Ok, Err, refl}
use Rattle.std.specs.Prelude.{codes}
use Rattle.m2v_y4m.specs.declared.answer.Y4mKind.TheVariants.{Magic, Line, Field, Size, Rate, Interlace, Chroma, Frame}
use Rattle.m2v_y4m.specs.Texts.{line_length, begins, words, number_of}
use Rattle.m2v_y4m.specs.Header.{opening, fault_at, with_words, with_word, parameter, rate_of, code_of, rate_frames, rate_seconds, top_of, chroma_of, header_of}
use Rattle.m2v_y4m.specs.Frames.{frame_line, in_frame, at_line, in_steps, frames_from, behind_header}
use Rattle.m2v_y4m.specs.Rows.{grey, small, grey_text}

bytes : length grey_text ≡ 52
bytes = refl

pub opens : opening grey_text ≡ Ok (record { header = small; length = 40 })
unfolding opening line_length begins words number_of with_words with_word parameter rate_of code_of rate_frames rate_seconds top_of chroma_of header_of
opens = refl

pub comes : behind_header (record { header = small; length = 40 }) grey_text ≡ record { raw = grey; fault = None }
unfolding frame_line in_frame at_line in_steps frames_from line_length begins
comes = refl

pub bad_chroma : opening (codes "YUV4MPEG2 W2 H2 F25:1 Ip A0:0 C422\n") ≡ Err (fault_at Chroma 30)
unfolding opening line_length begins words number_of with_words with_word parameter rate_of code_of rate_frames rate_seconds top_of chroma_of header_of
bad_chroma = refl

pub bad_magic : opening (codes "YUV4MPEG W2\n") ≡ Err (fault_at Magic 0)
unfolding opening line_length begins words number_of with_words with_word parameter rate_of code_of rate_frames rate_seconds top_of chroma_of header_of
bad_magic = refl

pub bad_magic_end : opening (codes "YUV4MPEG2") ≡ Err (fault_at Magic 0)
unfolding opening line_length begins words number_of with_words with_word parameter rate_of code_of rate_frames rate_seconds top_of chroma_of header_of
bad_magic_end = refl

pub bad_line : opening (codes "YUV4MPEG2 W2") ≡ Err (fault_at Line 0)
unfolding opening line_length begins words number_of with_words with_word parameter rate_of code_of rate_frames rate_seconds top_of chroma_of header_of
bad_line = refl

pub bad_empty : opening (codes "YUV4MPEG2 W2  H2 F25:1\n") ≡ Err (fault_at Field 13)
unfolding opening line_length begins words number_of with_words with_word parameter rate_of code_of rate_frames rate_seconds top_of chroma_of header_of
bad_empty = refl

pub bad_no_width : opening (codes "YUV4MPEG2 H2 F25:1\n") ≡ Err (fault_at Field 18)
unfolding opening line_length begins words number_of with_words with_word parameter rate_of code_of rate_frames rate_seconds top_of chroma_of header_of
bad_no_width = refl

pub bad_none : opening (codes "YUV4MPEG2\n") ≡ Err (fault_at Field 9)
unfolding opening line_length begins words number_of with_words with_word parameter rate_of code_of rate_frames rate_seconds top_of chroma_of header_of
bad_none = refl

pub bad_space : opening (codes "YUV4MPEG2 \n") ≡ Err (fault_at Field 10)
unfolding opening line_length begins words number_of with_words with_word parameter rate_of code_of rate_frames rate_seconds top_of chroma_of header_of
bad_space = refl

pub bad_again : opening (codes "YUV4MPEG2 W2 W0 H2 F25:1\n") ≡ Err (fault_at Field 13)
unfolding opening line_length begins words number_of with_words with_word parameter rate_of code_of rate_frames rate_seconds top_of chroma_of header_of
bad_again = refl

pub bad_digits : opening (codes "YUV4MPEG2 W00002 H2 F25:1\n") ≡ Err (fault_at Field 10)
unfolding opening line_length begins words number_of with_words with_word parameter rate_of code_of rate_frames rate_seconds top_of chroma_of header_of
bad_digits = refl

pub bad_wide : opening (codes "YUV4MPEG2 W1921 H2 F25:1\n") ≡ Err (fault_at Size 10)
unfolding opening line_length begins words number_of with_words with_word parameter rate_of code_of rate_frames rate_seconds top_of chroma_of header_of
bad_wide = refl

pub bad_tall : opening (codes "YUV4MPEG2 W2 H0 F25:1\n") ≡ Err (fault_at Size 13)
unfolding opening line_length begins words number_of with_words with_word parameter rate_of code_of rate_frames rate_seconds top_of chroma_of header_of
bad_tall = refl

pub bad_colon : opening (codes "YUV4MPEG2 W2 H2 F25\n") ≡ Err (fault_at Field 16)
unfolding opening line_length begins words number_of with_words with_word parameter rate_of code_of rate_frames rate_seconds top_of chroma_of header_of
bad_colon = refl

pub bad_zero : opening (codes "YUV4MPEG2 W2 H2 F0:0\n") ≡ Err (fault_at Rate 16)
unfolding opening line_length begins words number_of with_words with_word parameter rate_of code_of rate_frames rate_seconds top_of chroma_of header_of
bad_zero = refl

pub bad_slow : opening (codes "YUV4MPEG2 W2 H2 F15:1\n") ≡ Err (fault_at Rate 16)
unfolding opening line_length begins words number_of with_words with_word parameter rate_of code_of rate_frames rate_seconds top_of chroma_of header_of
bad_slow = refl

pub bad_bottom : opening (codes "YUV4MPEG2 W2 H2 F25:1 Ib\n") ≡ Err (fault_at Interlace 22)
unfolding opening line_length begins words number_of with_words with_word parameter rate_of code_of rate_frames rate_seconds top_of chroma_of header_of
bad_bottom = refl

pub frames_params : frames_from 6 40 (codes "FRAME Ip\n" ++ grey) ≡ record { raw = grey; fault = None }
unfolding frame_line in_frame at_line in_steps frames_from line_length begins
frames_params = refl

pub frames_lines : frames_from 6 40 (codes "FRAM\n" ++ grey) ≡ record { raw = []; fault = Some (fault_at Frame 40) }
unfolding frame_line in_frame at_line in_steps frames_from line_length begins
frames_lines = refl

pub frames_end : frames_from 6 40 (codes "FRAME\n") ≡ record { raw = []; fault = Some (fault_at Frame 40) }
unfolding frame_line in_frame at_line in_steps frames_from line_length begins
frames_end = refl

pub frames_cut : frames_from 6 40 (codes "FRAME") ≡ record { raw = []; fault = Some (fault_at Line 40) }
unfolding frame_line in_frame at_line in_steps frames_from line_length begins
frames_cut = refl

pub frames_short : frames_from 6 40 (codes "FRAME\n" ++ 1 ∷ []) ≡ record { raw = 1 ∷ []; fault = None }
unfolding frame_line in_frame at_line in_steps frames_from line_length begins
frames_short = refl

pub frames_second : frames_from 6 40 (codes "FRAME\n" ++ (grey ++ codes "x\n")) ≡ record { raw = grey; fault = Some (fault_at Frame 52) }
unfolding frame_line in_frame at_line in_steps frames_from line_length begins
frames_second = refl

pub frames_third : frames_from 6 40 (codes "FRAME\n" ++ (grey ++ codes "FRAME x\n")) ≡ record { raw = grey; fault = Some (fault_at Frame 52) }
unfolding frame_line in_frame at_line in_steps frames_from line_length begins
frames_third = refl

pub frames_no : frames_from 6 40 ([]) ≡ record { raw = []; fault = None }
unfolding frame_line in_frame at_line in_steps frames_from line_length begins
frames_no = refl
