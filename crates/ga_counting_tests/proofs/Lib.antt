mod TestNumbers
