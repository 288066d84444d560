use Rattle.std.proofs.Common.{◌≤◌, arith, ◌++◌, drop, length, refl}
use Rattle.std.proofs.lemmas.List.{length-take, length-take-le, length-append, length-drop}
use Rattle.jul_base.proofs.LoadingLaws.{IsLoading-more, IsLoaded-full, IsLoaded-end}
use Rattle.jul_base.proofs.loading.load_all.Goals as goal
use Rattle.jul_base.proofs.loading.load_all.Goals.{else-loop-block-test, then-loop-block-test+in_ok-count+then-count-eq0}

pub loop-block-preserved : goal.loop-block-preserved
loop-block-preserved g c =
    let size : c.in_ok-count.count ≤ length c.read.new.buf = omega (arith, c.in_ok-count.ensures.within, c.read.auto.buf) in
    let more : c.in_ok-count.count ≤ length (c.read.new.buf ++ drop c.min-room.result c.loop-block.block) = omega (arith, size, length-append c.read.new.buf (drop c.min-room.result c.loop-block.block)) in
    record {
      loading = IsLoading-more _ _ _ _ _ _ _ c.read.new.buf _ c.in_ok-count.count c.loop-block.invariant.loading c.in_ok-count.ensures.moves c.in_ok-count.ensures.ok size c.in_ok-extend_from_slice.ensures.items;
      is_open = c.in_ok-count.ensures.is_open;
      within = omega (
        arith,
        c.in_ok-extend_from_slice.ensures.len,
        length-take-le c.in_ok-count.count (c.read.new.buf ++ drop c.min-room.result c.loop-block.block) more,
        c.in_ok-count.ensures.within,
        length-take c.min-room.result c.loop-block.block,
      );
      most = refl;
      block = omega (arith, c.loop-block.invariant.block, length-append c.read.new.buf (drop c.min-room.result c.loop-block.block), length-drop c.min-room.result c.loop-block.block, length-take c.min-room.result c.loop-block.block, c.read.auto.buf);
      faults = omega (arith, c.read.ensures.faults, c.loop-block.invariant.faults);
    }

pub returns-clause-ok : goal.returns-clause-ok
returns-clause-ok g c =
    elim c.loop-block-test.branch [
      | else-loop-block-test w ↦ rw w.files-is (IsLoaded-full _ _ _ _ _ c.loop-block.invariant.loading (omega arith))
      | then-loop-block-test+in_ok-count+then-count-eq0 w ↦
          rw w.files-is
          (IsLoaded-end _ _ _ _ _ _ w.read.new.buf _ w.in_ok-count.count c.loop-block.invariant.loading (omega arith) (omega (arith, length-take w.min-room.result c.loop-block.block, c.loop-block.invariant.block)) w.if-count-eq0.true w.in_ok-count.ensures.moves w.in_ok-count.ensures.ok)
    ]
