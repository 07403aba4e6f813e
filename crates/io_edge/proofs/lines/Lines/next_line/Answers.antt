use Rattle.std.proofs.Common.{refl, arith}
use Rattle.io_edge.proofs.lines.Lines.next_line.Goals as goal

pub returns-in-Err : goal.returns-in-Err
returns-in-Err g c =
    rw (← c.self.view_is) (
      (
        refl,
        λ _. tt,
        record {
          number = refl;
          stop = refl;
          within = (let held = c.advance.ensures.within in let fits = c.self.invariant in omega (arith, held, fits.0));
          few = (let few = c.advance.ensures.few in omega (arith, few));
          passed = refl;
          kept = c.in-Err.ensures.kept;
          clear = λ _. c.in-Err.ensures.clear;
          short = λ _. c.in-Err.ensures.short;
        },
      ),
      record {
        number = tt;
        text = tt;
        after_borrow = tt;
        stop = λ told _. c.in-Err.ensures.stop told;
        numbered = λ _. c.in-Err.ensures.numbered;
        cause = λ _. c.in-Err.ensures.cause;
        again = rw c.in_default.is tt;
      },
    )
