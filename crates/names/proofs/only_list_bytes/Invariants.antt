use Rattle.std.proofs.Common.{ℕ, ◌≡◌, ◌*◌, ◌<◌, get_or, true}
use Rattle.words.specs.Words.{is_list_byte}
use Rattle.names.proofs.only_list_bytes.Given as goal

abbrev pub invariant-loop-word : goal.invariant-loop-word
invariant-loop-word l = l.marks ≡ 0 → (i : ℕ) → i < 8 * l.word-index → is_list_byte (get_or l.names i 0) ≡ true
