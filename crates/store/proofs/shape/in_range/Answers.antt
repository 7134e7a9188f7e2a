use Rattle.std.proofs.Common.{arith}
use Rattle.store.proofs.TableLaws.{table_fits, no_row, table_more, table_fails, table_done}
use Rattle.store.proofs.shape.in_range.Goals as goal

pub words-requires : goal.words-requires
words-requires c = omega (arith, (table_fits _ c.layout-rows.ensures c.loop-row.row-index no_row c.loop-row-test.true).inside)

pub overflow_cast-row : goal.overflow_cast-row
overflow_cast-row c = omega (arith, (table_fits _ c.layout-rows.ensures c.loop-row.row-index no_row c.loop-row-test.true).word)

pub within-requires : goal.within-requires
within-requires c = omega (arith, (table_fits _ c.layout-rows.ensures c.loop-row.row-index no_row c.loop-row-test.true).small)

pub returns-then-not-within : goal.returns-then-not-within
returns-then-not-within c = table_fails _ c.layout-rows.ensures c.loop-row.row-index no_row c.loop-row-test.true _ _ (rw (← c.words.ensures.words) c.within.ensures) c.loop-row.invariant c.if-not-within.true

pub loop-row-preserved : goal.loop-row-preserved
loop-row-preserved c = table_more _ c.layout-rows.ensures c.loop-row.row-index no_row c.loop-row-test.true _ _ (rw (← c.words.ensures.words) c.within.ensures) c.loop-row.invariant c.if-not-within.false

pub returns : goal.returns
returns c = table_done c.loop-row.row-index _ (omega arith) c.loop-row.invariant
