pub mod Formulas
pub mod Grammar
pub mod Signs
pub mod Trees
