-- What a run has read and written. Assumes nothing.
use Prim.Native.Nat.{ℕ, ◌+◌, ◌-◌, ◌<◌, ◌≤◌}
use mathlib.Core.Path.{◌≡◌, refl, sym, ap, ◌∙◌}
use mathlib.Core.List.{List, [], ◌∷◌, ◌++◌, flatten, map-append, append-nil, append_assoc}
use native.Mathlib.Omega.{arith}
use lib.ListN.{length, take, drop, length-append, take-append-drop}
use lib.Seq.{length-take-le, take-add, take_all}
use Rattle.model.specs.Paper.{paper_states, paper_rows, paper_accepting, paper_names}
use Rattle.line.specs.Held.{part, held_after, put_for}
use Rattle.line.specs.Feeding.{Holds}
use Rattle.line.specs.declared.Line.{Line}
use Rattle.line.proofs.Output.{held_more, put_more}
use Rattle.std.specs.Prelude.{Some, None, Result, Ok, Err, IsErr, IsErrAnd, MatchResult}
use Rattle.std.specs.declared.io.Error.{Error}
use Rattle.streams.specs.declared.Entry.{Entry}
use Rattle.streams.specs.declared.Entry.TheVariants.{ByteWritten, EndOfInput, ReadFailed, WriteFailed}
use Rattle.streams.specs.Log.{Logged}
use Rattle.streams.specs.Parts.{OfBytes, one_read, writes, Took, Wrote}
use Rattle.streams.proofs.Laws.{logged_none, logged_both}
use Rattle.treenum.specs.Treenum.{printed_for, put_after, PrintsLine}
use Rattle.treenum.specs.Run.{log_of, Parts, at_end, after_read, has_ended, Feeds, TakesPart, Stops, Ran}
use Rattle.treenum.specs.declared.Failure.{Failure}
use Rattle.treenum.specs.declared.Failure.TheVariants.{Read, Write}

-- ---- the bytes of a read

-- the first i bytes are fed, and what is put for them is written
pub record Fills (bytes : List ℕ) (line₀ : Line) (log₀ : ℕ) (line : Line) (log i : ℕ) : Type 0 where
  pub within : i ≤ length bytes
  pub holds : (held : List ℕ) → Holds held line₀ → Holds (held_after held (take i bytes)) line
  pub logged : (held : List ℕ) → Holds held line₀ → Logged log₀ log (writes (put_after held (take i bytes)))

pub fills_first : (bytes : List ℕ) (line : Line) (log : ℕ) → Fills bytes line log line log 0
unfolding held_after put_for
fills_first bytes line log = record { within = omega arith; holds = λ held x. x; logged = λ held x. logged_none log }

-- some bytes, then more, put what the first put and what the others put after them
writes_more : (held a b : List ℕ) → writes (put_after held (a ++ b)) ≡ writes (put_after held a) ++ writes (put_after (held_after held a) b)
writes_more held a b =
    ap writes (put_more paper_states paper_rows paper_accepting paper_names held a b)
    ∙ map-append ByteWritten (put_after held a) (put_after (held_after held a) b)

module _ {bytes : List ℕ} {line₀ : Line} {log₀ : ℕ} {line : Line} {log i : ℕ} (f : Fills bytes line₀ log₀ line log i) where
  module _ (line' : Line) (out : List ℕ) (next n log' : ℕ) (m : i < next)
      (p : (held : List ℕ) → Holds held line → PrintsLine held (part bytes i next) line' out n) where
    up_to : take next bytes ≡ take i bytes ++ part bytes i next
    up_to = let k : i + (next - i) ≡ next = omega arith in ap (λ (j : ℕ). take j bytes) (sym k) ∙ take-add i (next - i) bytes

    -- what was put for the bytes up to the next place is what was handed to writes
    handed : (held : List ℕ) → Holds held line₀ → writes (put_after held (take next bytes)) ≡ writes (put_after held (take i bytes)) ++ writes (take n out)
    handed held x =
        ap (λ (l : List ℕ). writes (put_after held l)) up_to
        ∙ writes_more held (take i bytes) (part bytes i next)
        ∙ ap (λ (l : List ℕ). writes (put_after held (take i bytes)) ++ writes l) (sym (p (held_after held (take i bytes)) (f.holds held x)).puts.front)

    pub fills_more : next ≤ length bytes → Wrote log log' (take n out) (Ok tt) → Fills bytes line₀ log₀ line' log' next
    fills_more l w = record {
      within = l;
      holds = λ held x. rw (up_to, held_more held (take i bytes) (part bytes i next)) (p (held_after held (take i bytes)) (f.holds held x)).holds;
      logged = λ held x.
          rw (handed held x)
          (logged_both log₀ (writes (put_after held (take i bytes))) (writes (take n out)) (f.logged held x) (rw (append-nil (writes (take n out))) at w));
    }

    -- the write fails
    pub fills_broke : (reason : Error) → Wrote log log' (take n out) (Err reason) → (r : Result Unit Error) → IsErr r → (held : List ℕ) → Holds held line₀ → Feeds held bytes r line' log₀ log'
    fills_broke reason w (Ok l) h held x = cc
    fills_broke reason w (Err e) h held x = record {
      fed = take next bytes;
      rest = drop next bytes;
      split = sym (take-append-drop next bytes);
      logged =
          rw (handed held x, append_assoc (writes (put_after held (take i bytes))) (writes (take n out)) (WriteFailed ∷ []))
          (logged_both log₀ (writes (put_after held (take i bytes))) (writes (take n out) ++ WriteFailed ∷ []) (f.logged held x) w);
    }

  pub fills_last : length bytes ≤ i → (held : List ℕ) → Holds held line₀ → Holds (held_after held bytes) line × Logged log₀ log (writes (put_after held bytes))
  fills_last l held x = (rw (take_all i bytes l) at (f.holds held x), rw (take_all i bytes l) at (f.logged held x))

-- ---- one read

-- what `map_err` was given, by what it gave
pub was_ok : {T E : Type 0} (D : Type 0) (r : Result T E) (x : T) (Q : E → Type 0) → ((e : E) → Q e → ⊥) → MatchResult r (λ y. ◌≡◌ {A = Result T D} (Ok x) (Ok y)) Q → r ≡ Ok x
was_ok D (Ok y) x Q q h = cc
was_ok D (Err e) x Q q h = absurd (q e h)

pub was_err : {T E D : Type 0} (r : Result T E) (d : D) (Q : E → Type 0) → MatchResult r (λ y. ◌≡◌ {A = Result T D} (Err d) (Ok y)) Q → (e : E) × (r ≡ Err e) × Q e
was_err (Ok y) d Q h = absurd cc
was_err (Err e) d Q h = (e, refl, h)

module _ (before between : ℕ) (chunk : List ℕ) where
  module _ (n : ℕ) (t : Took before between chunk (Ok (Some n))) (held : List ℕ) (line : Line) (after : ℕ) where
    pub turned_on : Feeds held (take n chunk) (Ok tt) line between after → TakesPart held line before after
    turned_on f = record {
      bytes = take n chunk;
      of_part = (rw (length-take-le n chunk t.1) t.0, t.2);
      holds = f.0;
      logged = logged_both before (one_read (take n chunk)) (writes (put_after held (take n chunk))) t.3 f.1;
    }

    pub turned_broke : (reason : Error) → Feeds held (take n chunk) (Err reason) line between after → (reads : ℕ) → Stops reads held (Err (Write reason)) before after
    turned_broke reason f reads = record {
      tail = one_read (f.fed ++ f.rest) ++ (writes (put_after held f.fed) ++ WriteFailed ∷ []);
      ends = after_read f.fed f.rest (rw f.split at t.2) refl;
      logged = logged_both before (one_read (f.fed ++ f.rest)) (writes (put_after held f.fed) ++ WriteFailed ∷ []) (rw f.split at t.3) f.logged;
    }

  -- what was due at the end is written, or the write fails
  pub turned_last : Took before between chunk (Ok None) → (held : List ℕ) (after reads : ℕ) (written : Result Unit Error) → Wrote between after (printed_for held) written
      → (r : Result Unit Failure) → MatchResult written (λ y. r ≡ Ok y) (λ e. IsErrAnd r (λ d. d ≡ Write e)) → Stops reads held r before after
  turned_last t held after reads (Ok y) w r m =
      rw m
      (record {
        tail = at_end held;
        ends = refl;
        logged = logged_both before (EndOfInput ∷ []) (writes (printed_for held)) t (rw (append-nil (writes (printed_for held))) at w);
      })
  turned_last t held after reads (Err reason) w (Ok y) m = absurd m
  turned_last t held after reads (Err reason) w (Err d) m =
      rw m
      (record {
        tail = at_end held ++ WriteFailed ∷ [];
        ends = has_ended refl;
        logged = logged_both before (EndOfInput ∷ []) (writes (printed_for held) ++ WriteFailed ∷ []) t w;
      })

  pub turned_unread : (reads : ℕ) (held : List ℕ) (reason : Error) → Took before between chunk (Err reason) → Stops reads held (Err (Read reason)) before between
  turned_unread reads held reason t = record { tail = ReadFailed ∷ []; ends = refl; logged = t }

-- what `?` gives on
pub given_on : (before after : ℕ) (failure : Failure) → Ran (Err failure) before after → (r : Result Unit Failure) → IsErrAnd r (λ e. e ≡ failure) → Ran r before after
given_on before after failure s (Ok l) e = absurd e
given_on before after failure s (Err f) e = rw e s

-- ---- the run

-- the input came so far in some parts, each of which is answered; the line holds what is held after them
pub record SoFar (before : ℕ) (line : Line) (log reads : ℕ) : Type 0 where
  pub parts : List (List ℕ)
  pub of_parts : Parts parts
  pub holds : Holds (held_after [] (flatten parts)) line
  pub logged : Logged before log (log_of [] parts)
  pub counted : length parts ≡ reads

pub so_far_first : (line : Line) (log : ℕ) → Holds [] line → SoFar log line log 0
unfolding Parts held_after flatten log_of
so_far_first line log h = record { parts = []; of_parts = _; holds = h; logged = logged_none log; counted = refl }

-- one part more
flatten_more : (parts : List (List ℕ)) (p : List ℕ) → flatten (parts ++ p ∷ []) ≡ flatten parts ++ p
unfolding flatten
flatten_more [] p = append-nil p
flatten_more (q ∷ parts) p = ap (λ (l : List ℕ). q ++ l) (flatten_more parts p) ∙ sym (append_assoc q (flatten parts) p)

parts_more : (parts : List (List ℕ)) (p : List ℕ) → Parts parts → (0 < length p) × OfBytes p → Parts (parts ++ p ∷ [])
unfolding Parts
parts_more [] p a b = (b, _)
parts_more (q ∷ parts) p a b = (a.0, parts_more parts p a.1 b)

log_more : (held : List ℕ) (parts : List (List ℕ)) (p : List ℕ)
    → log_of held (parts ++ p ∷ []) ≡ log_of held parts ++ (one_read p ++ writes (put_after (held_after held (flatten parts)) p))
unfolding log_of flatten held_after
log_more held [] p = append-nil (one_read p ++ writes (put_after held p))
log_more held (q ∷ parts) p =
    ap (λ (l : List Entry). (one_read q ++ writes (put_after held q)) ++ l) (log_more (held_after held q) parts p)
    ∙ sym (append_assoc (one_read q ++ writes (put_after held q)) (log_of (held_after held q) parts) (one_read p ++ writes (put_after (held_after (held_after held q) (flatten parts)) p)))
    ∙ ap (λ (h : List ℕ). ((one_read q ++ writes (put_after held q)) ++ log_of (held_after held q) parts) ++ (one_read p ++ writes (put_after h p))) (sym (held_more held q (flatten parts)))

module _ {before : ℕ} {line : Line} {log reads : ℕ} (s : SoFar before line log reads) where
  pub so_far_more : (line' : Line) (log' : ℕ) → ((held : List ℕ) → Holds held line → TakesPart held line' log log') → SoFar before line' log' (reads + 1)
  so_far_more line' log' f =
      let t = f (held_after [] (flatten s.parts)) s.holds in
      record {
        parts = s.parts ++ t.bytes ∷ [];
        of_parts = parts_more s.parts t.bytes s.of_parts t.of_part;
        holds = rw (flatten_more s.parts t.bytes, held_more [] (flatten s.parts) t.bytes) t.holds;
        logged = rw (log_more [] s.parts t.bytes) (logged_both before (log_of [] s.parts) (one_read t.bytes ++ writes (put_after (held_after [] (flatten s.parts)) t.bytes)) s.logged t.logged);
        counted = let k : length (s.parts ++ t.bytes ∷ []) ≡ length s.parts + 1 = length-append s.parts (t.bytes ∷ []) in omega (arith, k, s.counted);
      }

  pub so_far_stops : (log' : ℕ) (ending : Result Unit Failure) → ((reads : ℕ) (held : List ℕ) → Holds held line → Stops reads held ending log log') → Ran ending before log'
  so_far_stops log' ending f =
      let t = f (length s.parts) (held_after [] (flatten s.parts)) s.holds in
      record {
        log = log_of [] s.parts ++ t.tail;
        is_run = record { parts = s.parts; of_parts = s.of_parts; tail = t.tail; whole = refl; ends = t.ends };
        logged = logged_both before (log_of [] s.parts) t.tail s.logged t.logged;
      }
