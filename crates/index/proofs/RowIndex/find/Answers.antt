use Rattle.index.proofs.Laws.{too_long, too_high, index_words}
use Rattle.index.proofs.RowIndex.find.Goals.{then-args-gt16-via-then-args-gt16, then-args-gt16-via-else-args-gt16+then-symbol-gt255}
use Rattle.index.proofs.RowIndex.find.Goals as goal

pub returns-then-args-gt16 : goal.returns-then-args-gt16
returns-then-args-gt16 c = elim c.then-args-gt16.branch [
  | then-args-gt16-via-then-args-gt16 w ↦ too_long _ _ c.args.self.now.rows.held _ _ w.if-args-gt16.true
  | then-args-gt16-via-else-args-gt16+then-symbol-gt255 w ↦ too_high _ _ c.args.self.now.rows.held _ _ w.if-symbol-gt255.true
]

pub seek-requires : goal.seek-requires
seek-requires c =
    record {
      by = c.args.self.now.by;
      held = c.args.self.now.rows.held;
      index = index_words c.args.self.now.rows.pool.now c.args.self.now.rows.words.now c.args.self.now.index;
      inside = c.bucket-b.ensures.1;
      bucket = c.bucket-b.ensures.0;
      counts = c.new-key.result.counted;
    }
