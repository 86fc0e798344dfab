use Rattle.std.proofs.Common.{arith, refl}
use Rattle.graphql_nesting.proofs.nesting.check_endless.Goals as goal

pub returns : goal.returns
returns c = λ document settled.
    let f = c.in_ok-endless.ensures document settled in
    let first = f.first (omega arith) in
    record {
      part = refl;
      d = first.0;
      first = first.1;
      is_endless = first.2;
      is_at = first.3;
      has = f.together;
      bound = refl;
      passes = omega arith;
    }
