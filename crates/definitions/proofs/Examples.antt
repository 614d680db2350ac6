-- Examples of the definitions, by computation, a file for each file of specs/ that has some. They pin the definitions down: an edit of one is
-- refused here.
pub mod Machine
pub mod Kernel
pub mod RuleSet
pub mod Emitted
pub mod Answer
pub mod Outcome
pub mod NamedSets
