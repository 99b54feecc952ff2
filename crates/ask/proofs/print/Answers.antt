-- The buffer has room for the reply to a file of up to one byte more than a program takes.
use Rattle.std.proofs.Common.{ℕ, refl, sym, ◌∙◌, arith}
use Rattle.std.proofs.lemmas.List.{length-replicate}
use Rattle.admission.proofs.Rooms.{buffer_size, enough, within}
use Rattle.ask_text.specs.Records.{question_size}
use Rattle.ask_text.specs.Lines.{answer_room}
use Rattle.ask.proofs.print.Goals as goal

pub slice_bounds-put_output-end : goal.slice_bounds-put_output-end
slice_bounds-put_output-end c = sym (length-replicate {A = ℕ} (buffer_size answer_room question_size) 0)

pub put_output-end-requires : goal.put_output-end-requires
put_output-end-requires c = enough answer_room question_size (omega arith) refl _ _ c.requires (length-replicate {A = ℕ} (buffer_size answer_room question_size) 0)

pub slice_bounds-write-end : goal.slice_bounds-write-end
slice_bounds-write-end c = sym (c.put_output-end.auto.out ∙ length-replicate {A = ℕ} (buffer_size answer_room question_size) 0)

pub write-requires : goal.write-requires
write-requires c =
    within answer_room question_size (omega arith) refl _ _ _ _ c.put_output-end.ensures.upper_bound c.requires c.put_output-end.auto.out (length-replicate {A = ℕ} (buffer_size answer_room question_size) 0)
