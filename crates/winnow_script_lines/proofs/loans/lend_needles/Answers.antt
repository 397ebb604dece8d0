use Rattle.winnow_script_lines.proofs.loans.lend_needles.Goals as goal

pub returns-in-One : goal.returns-in-One
returns-in-One g c = rw c.in-One.is c.lend.ensures

pub returns-in-Two : goal.returns-in-Two
returns-in-Two g c = rw c.in-Two.is (c.lend-in-Two.ensures, c.lend-in-Two-2.ensures)

pub returns-in-Three : goal.returns-in-Three
returns-in-Three g c =
    rw c.in-Three.is (c.lend-in-Three.ensures, c.lend-in-Three-2.ensures, c.lend-in-Three-3.ensures)
