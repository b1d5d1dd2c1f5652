-- What a run read and wrote, by its log. Assumes nothing.
use Prim.Native.Nat.{ℕ}
use mathlib.Core.Path.{◌≡◌, refl, sym, ap, ◌∙◌}
use mathlib.Core.List.{List, [], ◌∷◌, ◌++◌, flatten, append-nil, append_assoc}
use native.Mathlib.Omega.{arith}
use Rattle.model.specs.Paper.{paper_states, paper_rows, paper_accepting, paper_names}
use Rattle.line.specs.Held.{held_after, put_for}
use Rattle.line.proofs.Output.{open_none, output_put, put_more}
use Rattle.std.specs.Prelude.{Result, Ok, Err}
use Rattle.streams.specs.declared.Entry.{Entry}
use Rattle.streams.specs.declared.Entry.TheVariants.{EndOfInput, ReadFailed, WriteFailed}
use Rattle.streams.specs.Log.{adds, written_in}
use Rattle.streams.specs.Parts.{OfBytes, one_read, writes}
use Rattle.streams.proofs.Laws.{bytes_both, Passed, passed_both, passed_none, passed_one, passed_read, passed_writes}
use Rattle.treenum.specs.Treenum.{printed_for, put_after}
use Rattle.treenum.specs.Run.{log_of, Parts, at_end, FailsToWrite, after_read, has_ended, IsRun, Answered, NothingElse}
use Rattle.treenum.specs.declared.Failure.{Failure}
use Rattle.treenum.specs.declared.Failure.TheVariants.{Read, Write, TooManyReads}

-- a failure after what passed
passed_failed : {log : List Entry} {input output : List ℕ} (e : Entry) → (adds e).0 ≡ [] → (adds e).1 ≡ [] → Passed log input output [] → Passed (log ++ e ∷ []) input output (adds e).2
passed_failed {log} {input} {output} e f g p =
    let q : Passed (e ∷ []) [] [] (adds e).2 = rw (f, g) at (passed_one e) in
    rw (append-nil output) at (rw (append-nil input) at (passed_both p q))

-- one read, and what is written after it
passed_turn : (bytes output : List ℕ) → Passed (one_read bytes ++ writes output) bytes output []
passed_turn bytes output = rw (append-nil bytes) at (passed_both (passed_read bytes) (passed_writes output))

-- the parts are read, and the answers to the lines that they end are written
passed_log : (held : List ℕ) (parts : List (List ℕ)) → Passed (log_of held parts) (flatten parts) (put_after held (flatten parts)) []
unfolding log_of flatten put_for
passed_log held [] = passed_none
passed_log held (p ∷ parts) =
    rw (put_more paper_states paper_rows paper_accepting paper_names held p (flatten parts)) (passed_both (passed_turn p (put_after held p)) (passed_log (held_after held p) parts))

-- what is put for some of the input, then what is printed for what is held and the rest
printed_both : (input rest : List ℕ) → printed_for (input ++ rest) ≡ put_after [] input ++ printed_for (held_after [] input ++ rest)
printed_both input rest = output_put paper_states paper_rows paper_accepting paper_names [] input rest open_none

printed_all : (input : List ℕ) → printed_for input ≡ put_after [] input ++ printed_for (held_after [] input)
printed_all input = ap printed_for (sym (append-nil input)) ∙ printed_both input [] ∙ ap (λ (l : List ℕ). put_after [] input ++ printed_for l) (append-nil (held_after [] input))

-- the input is read to its end
passed_all : (parts : List (List ℕ)) → Passed (log_of [] parts ++ at_end (held_after [] (flatten parts))) (flatten parts) (printed_for (flatten parts)) []
passed_all parts =
    let t : Passed (at_end (held_after [] (flatten parts))) [] (printed_for (held_after [] (flatten parts))) [] = passed_both (passed_one EndOfInput) (passed_writes (printed_for (held_after [] (flatten parts)))) in
    rw (printed_all (flatten parts)) (rw (append-nil (flatten parts)) at (passed_both (passed_log [] parts) t))

parts_bytes : (parts : List (List ℕ)) → Parts parts → OfBytes (flatten parts)
unfolding Parts flatten
parts_bytes [] a = λ i. omega arith
parts_bytes (p ∷ parts) a = bytes_both p (flatten parts) a.0.1 (parts_bytes parts a.1)

pub answered : (log : List Entry) → IsRun (Ok tt) log → Answered log
answered log r =
    let e : log ≡ log_of [] r.parts ++ at_end (held_after [] (flatten r.parts)) = r.whole ∙ ap (λ (l : List Entry). log_of [] r.parts ++ l) r.ends in
    let p : Passed log (flatten r.parts) (printed_for (flatten r.parts)) [] = rw e (passed_all r.parts) in
    record {
      of_bytes = rw p.read (parts_bytes r.parts r.of_parts);
      earlier = log_of [] r.parts;
      last = printed_for (held_after [] (flatten r.parts));
      to_end = e;
      none_failed = p.failed;
      written = p.written ∙ ap printed_for (sym p.read);
    }

-- what was handed to writes is a beginning of what is printed
begun : {log : List Entry} {input output : List ℕ} {failures : List Entry} (rest : List ℕ) → Passed log input output failures → printed_for input ≡ output ++ rest → NothingElse log
begun {output = output} rest p e = record { rest = rest; begins = ap printed_for p.read ∙ e ∙ ap (λ (l : List ℕ). l ++ rest) (sym p.written) }

-- a write failed after a read
passed_part : (parts : List (List ℕ)) (fed rest : List ℕ)
    → Passed (log_of [] parts ++ (one_read (fed ++ rest) ++ (writes (put_after (held_after [] (flatten parts)) fed) ++ WriteFailed ∷ []))) (flatten parts ++ (fed ++ rest)) (put_after [] (flatten parts ++ fed)) (WriteFailed ∷ [])
passed_part parts fed rest =
    let t : Passed (one_read (fed ++ rest) ++ (writes (put_after (held_after [] (flatten parts)) fed) ++ WriteFailed ∷ [])) (fed ++ rest) (put_after (held_after [] (flatten parts)) fed) (WriteFailed ∷ []) =
    rw (append_assoc (one_read (fed ++ rest)) (writes (put_after (held_after [] (flatten parts)) fed)) (WriteFailed ∷ [])) at (passed_failed WriteFailed refl refl (passed_turn (fed ++ rest) (put_after (held_after [] (flatten parts)) fed))) in
    rw (put_more paper_states paper_rows paper_accepting paper_names [] (flatten parts) fed) (passed_both (passed_log [] parts) t)

broken : (parts : List (List ℕ)) (tail : List Entry) → FailsToWrite (held_after [] (flatten parts)) tail → NothingElse (log_of [] parts ++ tail)
broken parts tail (after_read fed rest b e) =
    rw e
    (begun
    (printed_for (held_after [] (flatten parts ++ fed) ++ rest))
    (passed_part parts fed rest)
    (ap printed_for (sym (append_assoc (flatten parts) fed rest)) ∙ printed_both (flatten parts ++ fed) rest))
broken parts tail (has_ended e) =
    rw (e, sym (append_assoc (log_of [] parts) (at_end (held_after [] (flatten parts))) (WriteFailed ∷ [])))
    (begun [] (passed_failed WriteFailed refl refl (passed_all parts)) (sym (append-nil (printed_for (flatten parts)))))

pub nothing_else : (ending : Result Unit Failure) (log : List Entry) → IsRun ending log → NothingElse log
nothing_else (Ok done) log r = let a = answered log r in record { rest = []; begins = sym (append-nil (written_in log) ∙ a.written) }
nothing_else (Err (Read reason)) log r =
    rw (r.whole, r.ends) (begun (printed_for (held_after [] (flatten r.parts))) (passed_failed ReadFailed refl refl (passed_log [] r.parts)) (printed_all (flatten r.parts)))
nothing_else (Err (Write reason)) log r = rw r.whole (broken r.parts r.tail r.ends)
nothing_else (Err TooManyReads) log r =
    rw (r.whole, r.ends.1, append-nil (log_of [] r.parts)) (begun (printed_for (held_after [] (flatten r.parts))) (passed_log [] r.parts) (printed_all (flatten r.parts)))
