pub mod Plans
pub mod ProblemTrees
