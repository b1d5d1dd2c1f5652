use mathlib.Core.Path.{refl}
use native.Mathlib.Omega.{arith}
use Rattle.names.specs.NamesIndex.{bucket_at}
use Rattle.names.proofs.bucket.Goals as goal

pub returns : goal.returns
unfolding bucket_at
returns c = (refl, omega arith)
